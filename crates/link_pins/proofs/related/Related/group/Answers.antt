use Rattle.std.proofs.Common.{◌≡◌, ◌∙◌, length, Some, refl, sym, ap, arith}
use Rattle.std.specs.List.{slice_get}
use Rattle.std.proofs.lemmas.Option.{get_or_from_slice_get, same_Some, slice_get_read, slice_get_within}
use Rattle.link_pins.specs.declared.related.CellGroups.{CellGroups}
use Rattle.link_pins.specs.Related.{group_at}
use Rattle.link_pins.proofs.KeptLaws.{kept_at}
use Rattle.link_pins.proofs.PinLaws.{some_is}
use Rattle.link_pins.proofs.related.Related.group.Goals as goal

pub index-requires : goal.index-requires
index-requires c =
    let cells = c.args.self.now.cells.items in
    let v = some_is (group_at cells c.args.pin) c.requires in
    let k = kept_at cells c.args.pin v.0 v.1 in
    let here : slice_get cells c.args.pin.cell ≡ Some c.index-cell.result.now =
    slice_get_read cells _ c.args.pin.cell c.index-cell.result.now refl (slice_get_within cells c.args.pin.cell k.cell k.at_cell) c.index-cell.ensures in
    let same : c.index-cell.result.now ≡ k.cell = same_Some c.index-cell.result.now k.cell (sym here ∙ k.at_cell) in
    omega (arith, slice_get_within k.cell.of.items c.args.pin.pin k.number k.at_pin, ap (λ (g : CellGroups). length g.of.items) same, c.index-cell.result.now.of.ok.0)

pub index-cell-requires : goal.index-cell-requires
index-cell-requires c =
    let cells = c.args.self.now.cells.items in
    let v = some_is (group_at cells c.args.pin) c.requires in
    let k = kept_at cells c.args.pin v.0 v.1 in
    omega (arith, slice_get_within cells c.args.pin.cell k.cell k.at_cell, c.args.self.now.cells.ok.0)

pub index-requires-2 : goal.index-requires-2
index-requires-2 c =
    let cells = c.args.self.now.cells.items in
    let v = some_is (group_at cells c.args.pin) c.requires in
    let k = kept_at cells c.args.pin v.0 v.1 in
    let same : c.index-cell.result.now ≡ k.cell = c.index-cell.ensures ∙ get_or_from_slice_get cells c.args.pin.cell k.cell c.index-cell.result.now k.at_cell in
    let number : c.index.result.now ≡ k.number =
    c.index.ensures
    ∙ get_or_from_slice_get c.index-cell.result.now.of.items c.args.pin.pin k.number c.index.result.now
    (ap (λ (g : CellGroups). slice_get g.of.items c.args.pin.pin) same ∙ k.at_pin) in
    omega (arith, slice_get_within k.cell.groups.items k.number v.0 k.at_group, number, ap (λ (g : CellGroups). length g.groups.items) same, c.index-cell.result.now.groups.ok.0)

pub returns : goal.returns
returns c =
    let cells = c.args.self.now.cells.items in
    let v = some_is (group_at cells c.args.pin) c.requires in
    let k = kept_at cells c.args.pin v.0 v.1 in
    let same : c.index-cell.result.now ≡ k.cell = c.index-cell.ensures ∙ get_or_from_slice_get cells c.args.pin.cell k.cell c.index-cell.result.now k.at_cell in
    let number : c.index.result.now ≡ k.number =
    c.index.ensures
    ∙ get_or_from_slice_get c.index-cell.result.now.of.items c.args.pin.pin k.number c.index.result.now
    (ap (λ (g : CellGroups). slice_get g.of.items c.args.pin.pin) same ∙ k.at_pin) in
    let there : slice_get c.index-cell.result.now.groups.items c.index.result.now ≡ Some v.0 =
    ap (slice_get c.index-cell.result.now.groups.items) number ∙ (ap (λ (g : CellGroups). slice_get g.groups.items k.number) same ∙ k.at_group) in
    let is : c.index-2.result.now ≡ v.0 = c.index-2.ensures ∙ get_or_from_slice_get c.index-cell.result.now.groups.items c.index.result.now v.0 c.index-2.result.now there in
    v.1 ∙ ap Some (sym is)
