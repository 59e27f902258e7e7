use Rattle.std.proofs.Common.{rules, ◌≡◌, ◌∙◌, List, length, Some, ◌++◌, ◌∷◌, [], refl, sym, ap, subst, arith}
use Rattle.std.specs.List.{slice_get}
use Rattle.std.proofs.lemmas.List.{length_push}
use Rattle.std.proofs.lemmas.Option.{slice_get_read}
use Rattle.liberty_cells.specs.Firsts.{IsFirst}
use Rattle.liberty_cells.specs.Pins.{PinParts}
use Rattle.link_pins.proofs.KeptLaws.{read_there, same_group, own_group}
use Rattle.link_pins.proofs.related.CellGroups.add.Goals as goal

pub returns-then-first-place-clause-groups : goal.returns-then-first-place-clause-groups
returns-then-first-place-clause-groups c = λ x there same are.
    let first = c.first-first.result in
    let here : slice_get c.args.self.now.of.items first ≡ Some c.index-group.result.now =
    slice_get_read c.args.self.now.of.items _ first c.index-group.result.now refl (omega (arith, c.if-first-place.true, c.requires.count)) c.index-group.ensures in
    same_group x c.args.self.now _ are c.args.place c.requires.count first c.index-group.result.now c.if-first-place.true (omega (arith, c.requires.place, ap length same))
    (subst (λ (l : List PinParts). IsFirst l c.args.place first) same c.first-first.ensures) here refl c.in_ok-push.ensures.items

pub returns-clause-count : goal.returns-clause-count
returns-clause-count c = omega (arith, ap length c.in_ok-push-3.ensures.items, length_push c.args.self.now.of.items c.in-Ok.number, c.requires.count)

pub returns-clause-groups : goal.returns-clause-groups
returns-clause-groups c = λ x there same are.
    let here : slice_get c.args.pins.now c.args.place ≡ Some c.index-as_slice-place.result =
    read_there c.args.pins.now c.args.place _ _ c.requires.place (rw c.as_slice.ensures at c.index-as_slice-place.is) in
    let fits : c.in-Ok.number ≡ c.len-number.result = search rules in
    let count : c.in-Ok.number ≡ length c.args.self.now.groups.items = omega (arith, fits, c.len-number.ensures, c.args.self.now.groups.ok.0) in
    own_group x c.args.self.now _ are c.args.place c.requires.count c.index-as_slice-place.result _ (ap (λ (l : List PinParts). slice_get l c.args.place) (sym same) ∙ here)
    (c.in_ok-group.ensures x there) c.in_ok-push-2.ensures.items (c.in_ok-push-3.ensures.items ∙ ap (λ n. c.args.self.now.of.items ++ n ∷ []) count)

pub index-group-requires : goal.index-group-requires
index-group-requires c = omega (arith, c.if-first-place.true, c.requires.count, c.args.self.now.of.ok.0)

pub returns-then-first-place-clause-count : goal.returns-then-first-place-clause-count
returns-then-first-place-clause-count c = omega (arith, ap length c.in_ok-push.ensures.items, length_push c.args.self.now.of.items c.index-group.result.now, c.requires.count)

pub bounds-as_slice-place : goal.bounds-as_slice-place
bounds-as_slice-place c = rw c.as_slice.ensures c.requires.place
