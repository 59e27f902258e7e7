use Rattle.std.proofs.Common.{sym, ◌∙◌, arith}
use Rattle.link_index.proofs.OddLaws.{odd_cell, fine_cell}
use Rattle.link_index.proofs.odd.is_odd_cell.Goals as goal

pub loop-place-preserved : goal.loop-place-preserved
loop-place-preserved c = sym (c.is_odd_at.ensures c.loop-place.invariant) ∙ c.if-is_odd_at.false

pub returns-then-is_odd_at : goal.returns-then-is_odd_at
returns-then-is_odd_at c =
    odd_cell c.args.cell.now _ (sym (c.is_odd_at.ensures c.loop-place.invariant) ∙ c.if-is_odd_at.true)

pub returns : goal.returns
returns c =
    fine_cell c.args.cell.now c.loop-place.place c.if-cell.false (omega (arith, c.len-place-end.ensures, c.loop-place-test.false)) c.loop-place.invariant
