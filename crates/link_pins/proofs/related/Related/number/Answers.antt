use Rattle.std.proofs.Common.{◌≡◌, ◌∙◌, length, Some, sym, ap, arith}
use Rattle.std.specs.Prelude.{option_and_then}
use Rattle.std.specs.List.{slice_get}
use Rattle.std.proofs.lemmas.Option.{get_or_from_slice_get, slice_get_within}
use Rattle.link_pins.specs.declared.related.CellGroups.{CellGroups}
use Rattle.link_pins.specs.Related.{group_at, number_at}
use Rattle.link_pins.proofs.KeptLaws.{kept_at}
use Rattle.link_pins.proofs.PinLaws.{some_is}
use Rattle.link_pins.proofs.related.Related.number.Goals as goal

pub index-requires : goal.index-requires
index-requires c =
    let cells = c.args.self.now.cells.items in
    let v = some_is (group_at cells c.args.pin) c.requires in
    let k = kept_at cells c.args.pin v.0 v.1 in
    omega (arith, slice_get_within cells c.args.pin.cell k.cell k.at_cell, c.args.self.now.cells.ok.0)

pub index-requires-2 : goal.index-requires-2
index-requires-2 c =
    let cells = c.args.self.now.cells.items in
    let v = some_is (group_at cells c.args.pin) c.requires in
    let k = kept_at cells c.args.pin v.0 v.1 in
    let same : c.index.result.now ≡ k.cell = c.index.ensures ∙ get_or_from_slice_get cells c.args.pin.cell k.cell c.index.result.now k.at_cell in
    omega (arith, slice_get_within k.cell.of.items c.args.pin.pin k.number k.at_pin, ap (λ (g : CellGroups). length g.of.items) same, c.index.result.now.of.ok.0)

pub returns : goal.returns
returns c =
    let cells = c.args.self.now.cells.items in
    let v = some_is (group_at cells c.args.pin) c.requires in
    let k = kept_at cells c.args.pin v.0 v.1 in
    let same : c.index.result.now ≡ k.cell = c.index.ensures ∙ get_or_from_slice_get cells c.args.pin.cell k.cell c.index.result.now k.at_cell in
    let number : c.index-2.result.now ≡ k.number =
    c.index-2.ensures
    ∙ get_or_from_slice_get c.index.result.now.of.items c.args.pin.pin k.number c.index-2.result.now
    (ap (λ (g : CellGroups). slice_get g.of.items c.args.pin.pin) same ∙ k.at_pin) in
    let own : number_at cells c.args.pin ≡ Some k.number = ap (option_and_then (λ (g : CellGroups). slice_get g.of.items c.args.pin.pin)) k.at_cell ∙ k.at_pin in
    own ∙ ap Some (sym number)
