use Rattle.std.proofs.Common.{◌≡◌, ℕ, ◌<◌, ◌∷◌, set, Some, None, refl, ap, sym, ◌∙◌, length, inl, inr, ◌⊎◌, arith}
use Rattle.std.specs.List.{slice_get}
use Rattle.std.proofs.lemmas.Option.{slice_get-get_or}
use Rattle.hier_flatten.specs.Hierarchy.{module_number}
use Rattle.hier_flatten.specs.Search.{IsSearch, work}
use Rattle.hier_flatten.specs.declared.circle.Mark.TheVariants as marks
use Rattle.hier_flatten.proofs.SliceLaws.{nothing_left}
use Rattle.hier_flatten.proofs.SearchLaws.{done_new, open_new, met_set, done_with, less_done, less_popped, met_again, goes_on, goes_in}
use Rattle.hier_flatten.proofs.circle.look.Goals.{in-Some+in-Done, in_default-number}
use Rattle.hier_flatten.proofs.circle.look.Goals as goal

pub returns-in_default-clause-goes : goal.returns-in_default-clause-goes
returns-in_default-clause-goes c =
    done_with c.args.index.now c.args.marks.now c.args.stack.now c.args.place (nothing_left c.args.place.rest.now c.in_default.len_below) c.requires

pub returns-in_default-clause-met : goal.returns-in_default-clause-met
returns-in_default-clause-met c = met_set c.args.marks.now c.args.place.number marks.Done done_new

pub returns-in_default-clause-less : goal.returns-in_default-clause-less
returns-in_default-clause-less c = less_done c.args.index.now c.args.marks.now c.args.stack.now c.args.place

pub returns-in-Open-clause-goes : goal.returns-in-Open-clause-goes
returns-in-Open-clause-goes c =
    let within : c.in-Some.below < length c.args.marks.now = omega (arith, c.requires.count, c.in-Some.ensures.within) in
    let named = ap (module_number c.args.index.now) (sym c.bytes.ensures) ∙ sym c.in-Some.ensures.value in
    let mark = slice_get-get_or c.args.marks.now c.in-Some.below marks.New within ∙ ap Some c.in-Open.is in
    met_again c.args.index.now c.args.marks.now c.args.stack.now c.args.place _ c.instance-item.result c.in-len1-up.len_at_least c.instance-item.is c.requires
    c.in-Some.below named mark

pub returns-in-Open-clause-less : goal.returns-in-Open-clause-less
returns-in-Open-clause-less c = less_popped c.args.index.now c.args.marks.now c.args.stack.now c.args.place

pub returns-in_err-push-in-New-2-clause-met : goal.returns-in_err-push-in-New-2-clause-met
returns-in_err-push-in-New-2-clause-met c = met_set c.args.marks.now c.in-Some.below marks.Open open_new

abbrev turn : (c : goal.In_ok-push-in-New-2)
    → IsSearch c.args.index.now (set c.args.marks.now c.in-Some.below marks.Open) c.push-in-New-2.new.self
    × (work c.args.index.now (set c.args.marks.now c.in-Some.below marks.Open) c.push-in-New-2.new.self < work c.args.index.now c.args.marks.now (c.args.place ∷ c.args.stack.now))
turn c =
    let within : c.in-Some.below < length c.args.marks.now = omega (arith, c.requires.count, c.in-Some.ensures.within) in
    let named = ap (module_number c.args.index.now) (sym c.bytes.ensures) ∙ sym c.in-Some.ensures.value in
    let mark = slice_get-get_or c.args.marks.now c.in-Some.below marks.New within ∙ ap Some c.in-New.is in
    goes_in c.args.index.now c.args.marks.now c.args.stack.now c.args.place _ c.instance-item.result c.in-len1-up.len_at_least c.instance-item.is c.requires
    (record { number = c.args.place.number; rest = c.args.place.rest }) (record { number = c.in-Some.below; rest = c.instances.result })
    c.push-in-New.new.self c.push-in-New-2.new.self refl refl named c.in-Some.ensures.within c.instances.ensures mark c.in_ok-push-in-New.ensures c.in_ok-push-in-New-2.ensures

pub returns-in-New-clause-goes : goal.returns-in-New-clause-goes
returns-in-New-clause-goes c = (turn c).0

pub returns-in-New-clause-met : goal.returns-in-New-clause-met
returns-in-New-clause-met c = met_set c.args.marks.now c.in-Some.below marks.Open open_new

pub returns-in-New-clause-less : goal.returns-in-New-clause-less
returns-in-New-clause-less c = (turn c).1

abbrev passed : (c : goal.In_ok-push-2) → (module_number c.args.index.now c.instance-item.result.cell ≡ None)
    ⊎ ((k : ℕ) × (module_number c.args.index.now c.instance-item.result.cell ≡ Some k) × (k < length c.args.index.now) × (slice_get c.args.marks.now k ≡ Some marks.Done))
passed c = elim c.match-number.branch [
  | in-Some+in-Done w ↦
      let within : w.in-Some.below < length c.args.marks.now = omega (arith, c.requires.count, w.in-Some.ensures.within) in
      inr (
        w.in-Some.below,
        ap (module_number c.args.index.now) (sym c.bytes.ensures) ∙ sym w.in-Some.ensures.value,
        w.in-Some.ensures.within,
        slice_get-get_or c.args.marks.now w.in-Some.below marks.New within ∙ ap Some w.in-Done.is,
      )
  | in_default-number w ↦ inl (ap (module_number c.args.index.now) (sym c.bytes.ensures) ∙ (sym c.number.ensures.value ∙ w.in_default-number.is))
]

pub returns-clause-goes : goal.returns-clause-goes
returns-clause-goes c =
    (goes_on c.args.index.now c.args.marks.now c.args.stack.now c.args.place _ c.instance-item.result c.in-len1-up.len_at_least c.instance-item.is c.requires
    _ c.push-2.new.self refl refl (passed c) c.in_ok-push-2.ensures).0

pub returns-clause-less : goal.returns-clause-less
returns-clause-less c =
    (goes_on c.args.index.now c.args.marks.now c.args.stack.now c.args.place _ c.instance-item.result c.in-len1-up.len_at_least c.instance-item.is c.requires
    _ c.push-2.new.self refl refl (passed c) c.in_ok-push-2.ensures).1

pub returns-in-Open-clause-met : goal.returns-in-Open-clause-met
returns-in-Open-clause-met c = λ number met. met

pub returns-clause-met : goal.returns-clause-met
returns-clause-met c = λ number met. met
