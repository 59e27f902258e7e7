use Rattle.std.proofs.Common.{◌≡◌, ℕ, zero, suc, ◌-◌, ◌<◌, ◌∙◌, refl, ap, Some, List, [], ◌∷◌, ◌++◌, length, arith}
use Rattle.std.specs.List.{slice_get}
use Rattle.std.proofs.lemmas.Option.{slice_get_read}
use Rattle.sdc_read.specs.declared.mentions.Said.{Said}
use Rattle.sdc_read.proofs.mentions.number_of.Goals as goal

-- what is said is there with one more at the end, and so is that
at_front : (list : List Said) (more : Said) (i : ℕ) (s : Said) → slice_get list i ≡ Some s → slice_get (list ++ more ∷ []) i ≡ Some s
at_front [] more i s h = absurd (cc)
at_front (x ∷ list) more zero s h = h
at_front (x ∷ list) more (suc i) s h = at_front list more i s h

at_end : (list : List Said) (more : Said) → slice_get (list ++ more ∷ []) (length list) ≡ Some more
at_end [] more = refl
at_end (x ∷ list) more = at_end list more

pub index-requires : goal.index-requires
index-requires c = let some = c.if-count-gt0.true in let many = c.len-count.ensures in omega (arith, some, many)

pub returns-then-is_said-clause-kept : goal.returns-then-is_said-clause-kept
returns-then-is_said-clause-kept c = λ i s there. there

pub returns-then-is_said-clause-there : goal.returns-then-is_said-clause-there
returns-then-is_said-clause-there c =
    let list = c.args.list.now in
    let below : c.len-count.result - 1 < length list.items = let some = c.if-count-gt0.true in let many = c.len-count.ensures in let same = list.ok.0 in omega (arith, some, many, same) in
    slice_get_read list.items (length list.items) (c.len-count.result - 1) c.index.result.now refl below c.index.ensures ∙ ap (λ (s : Said). Some s) (c.is_said.ensures c.if-is_said.true)

pub returns-clause-kept : goal.returns-clause-kept
returns-clause-kept c = λ i s there. rw c.in_ok-push.ensures.items (at_front c.args.list.now.items c.args.said i s there)

pub returns-clause-there : goal.returns-clause-there
returns-clause-there c =
    let list = c.args.list.now in
    let last : c.len-count.result ≡ length list.items = let many = c.len-count.ensures in let same = list.ok.0 in omega (arith, many, same) in
    rw (c.in_ok-push.ensures.items, last) (at_end list.items c.args.said)
