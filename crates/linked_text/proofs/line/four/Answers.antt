use Rattle.linked_text.proofs.Splits.{few_four, four_none, four_some}
use Rattle.linked_text.proofs.line.four.Goals as goal

pub returns-in_err-first : goal.returns-in_err-first
returns-in_err-first c = rw c.from_residual.ensures (few_four _ c.in_err-first.ensures)

pub returns-in_err-fourth : goal.returns-in_err-fourth
returns-in_err-fourth c = rw c.from_residual-in_err-fourth.ensures (four_none _ _ _ _ _ c.in_ok-first.ensures c.in_err-fourth.ensures)

pub returns : goal.returns
returns c = four_some _ _ _ _ _ c.in_ok-first.ensures _ c.in_ok-fourth.ensures
