use Rattle.std.proofs.Common.{refl}
use Rattle.linked_text.proofs.Splits.{first_field, last_field, three_none, three_some}
use Rattle.linked_text.proofs.line.three.Goals as goal

pub returns-in_err-first : goal.returns-in_err-first
returns-in_err-first c = rw (c.from_residual.ensures, last_field _ c.in_err-first.ensures) refl

pub returns-in_err-second : goal.returns-in_err-second
returns-in_err-second c = rw c.from_residual-in_err-second.ensures (three_none _ _ _ (first_field _ _ _ c.in_ok-first.ensures) c.in_err-second.ensures)

pub returns : goal.returns
returns c = three_some _ _ _ (first_field _ _ _ c.in_ok-first.ensures) _ c.in_ok-second.ensures
