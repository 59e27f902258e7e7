use Rattle.std.proofs.Common.{◌∙◌, length, sym, ap, arith}
use Rattle.std.specs.List.{slice_get}
use Rattle.std.proofs.lemmas.List.{length_push}
use Rattle.std.proofs.lemmas.Option.{none-some}
use Rattle.liberty_cells.specs.declared.library.Library.{Library}
use Rattle.link_pins.proofs.KeptLaws.{cell_more, all_kept}
use Rattle.link_pins.proofs.related.Related.new.Goals as goal

pub loop-cell-init : goal.loop-cell-init
loop-cell-init c = record {
  count = ap length c.in_ok-made.ensures.items;
  all = λ i x g there at. absurd (none-some g (sym (ap (λ l. slice_get l i) c.in_ok-made.ensures.items) ∙ at));
}

pub of_cell-requires : goal.of_cell-requires
of_cell-requires c = omega (arith, c.loop-cell-test.true, c.len-count.ensures, ap (λ (l : Library). length l.cells) c.library.ensures)

pub loop-cell-preserved : goal.loop-cell-preserved
loop-cell-preserved c = record {
  count = omega (arith, ap length c.in_ok-push.ensures.items, length_push c.loop-cell.made.items c.in_ok-of_cell.field-0, c.loop-cell.invariant.count);
  all =
      cell_more c.args.cells.now c.loop-cell.made.items c.push.new.self.items c.in_ok-of_cell.field-0
      (λ x there. c.in_ok-of_cell.ensures x (ap (slice_get c.args.cells.now.cells) (sym c.loop-cell.invariant.count) ∙ there))
      c.in_ok-push.ensures.items c.loop-cell.invariant.all;
}

pub returns : goal.returns
returns c =
    all_kept c.args.cells.now c.loop-cell.made.items
    (omega (arith, c.loop-cell.invariant.count, c.loop-cell-test.false, c.len-count.ensures, ap (λ (l : Library). length l.cells) c.library.ensures)) c.loop-cell.invariant.all
