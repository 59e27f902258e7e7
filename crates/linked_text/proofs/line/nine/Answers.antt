use Rattle.std.proofs.Common.{ap, arith, length}
use Rattle.linked_text.proofs.Splits.{few_nine, nine_none, nine_some, six_first}
use Rattle.linked_text.proofs.line.nine.Goals as goal

pub returns-in_err-first : goal.returns-in_err-first
returns-in_err-first c = rw c.from_residual.ensures (few_nine _ (omega (arith, c.in_err-first.ensures)))

pub returns-in_err-fourth : goal.returns-in_err-fourth
returns-in_err-fourth c = rw c.from_residual-in_err-fourth.ensures (few_nine _ (omega (arith, c.in_err-fourth.ensures, ap length c.in_ok-first.ensures)))

pub returns-in_err-seventh : goal.returns-in_err-seventh
returns-in_err-seventh c = rw c.from_residual-in_err-seventh.ensures (nine_none _ _ _ _ _ _ _ _ (six_first c.in_ok-first.ensures c.in_ok-fourth.ensures) c.in_err-seventh.ensures)

pub returns : goal.returns
returns c = nine_some _ _ _ _ _ _ _ _ (six_first c.in_ok-first.ensures c.in_ok-fourth.ensures) _ c.in_ok-seventh.ensures
