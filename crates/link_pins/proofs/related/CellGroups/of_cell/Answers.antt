use Rattle.std.proofs.Common.{◌≡◌, ◌∙◌, length, Some, sym, ap, arith}
use Rattle.std.specs.List.{slice_get}
use Rattle.std.proofs.lemmas.Option.{same_Some}
use Rattle.liberty_cells.specs.declared.cell.Cell.{Cell}
use Rattle.liberty_cells.specs.declared.library.Library.{Library}
use Rattle.link_pins.proofs.KeptLaws.{read_there, no_groups}
use Rattle.link_pins.proofs.related.CellGroups.of_cell.Goals as goal

pub loop-place-init : goal.loop-place-init
loop-place-init c = record {
  count = ap length c.in_ok-of.ensures.items;
  groups = λ x there. no_groups x _ c.in_ok-rows.ensures.items c.in_ok-of.ensures.items;
}

pub loop-place-preserved : goal.loop-place-preserved
loop-place-preserved c =
    let items : c.as_slice.result.now ≡ c.args.cells.now.cells = c.as_slice.ensures ∙ ap (λ (l : Library). l.cells) c.library.ensures in
    record {
      count = c.in_ok-add.ensures.count;
      groups = λ x there.
          let here : slice_get c.args.cells.now.cells c.args.cell ≡ Some c.index-as_slice-cell.result =
          read_there c.args.cells.now.cells c.args.cell _ _ c.requires (rw items at c.index-as_slice-cell.is) in
          let same = sym c.index-as_slice-cell.is ∙ same_Some c.index-as_slice-cell.result x (sym here ∙ there) in
          c.in_ok-add.ensures.groups x there (ap (λ (y : Cell). y.pins) same) (c.loop-place.invariant.groups x there);
    }

pub returns : goal.returns
returns c = λ x there.
    let items : c.as_slice.result.now ≡ c.args.cells.now.cells = c.as_slice.ensures ∙ ap (λ (l : Library). l.cells) c.library.ensures in
    let here : slice_get c.args.cells.now.cells c.args.cell ≡ Some c.index-as_slice-cell.result =
    read_there c.args.cells.now.cells c.args.cell _ _ c.requires (rw items at c.index-as_slice-cell.is) in
    let same = sym c.index-as_slice-cell.is ∙ same_Some c.index-as_slice-cell.result x (sym here ∙ there) in
    record {
      count = omega (arith, c.loop-place.invariant.count, c.loop-place-test.false, c.loop-place.auto.place-end, c.len-place-end.ensures, ap (λ (y : Cell). length y.pins) same);
      groups = c.loop-place.invariant.groups x there;
    }
