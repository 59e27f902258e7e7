use Rattle.linked_text.proofs.Splits.{first_field, last_field, short_one, short_two, short_three, three_first}
use Rattle.linked_text.proofs.line.cut_three.Goals as goal

pub returns-in_err-first : goal.returns-in_err-first
returns-in_err-first c = rw c.from_residual.ensures (short_one (last_field _ c.in_err-first.ensures))

pub returns-in_err-second : goal.returns-in_err-second
returns-in_err-second c = rw c.from_residual-in_err-second.ensures (short_two (first_field _ _ _ c.in_ok-first.ensures) (last_field _ c.in_err-second.ensures))

pub returns-in_err-third : goal.returns-in_err-third
returns-in_err-third c = rw c.from_residual-in_err-third.ensures (short_three (first_field _ _ _ c.in_ok-first.ensures) (first_field _ _ _ c.in_ok-second.ensures) (last_field _ c.in_err-third.ensures))

pub returns : goal.returns
returns c = three_first (first_field _ _ _ c.in_ok-first.ensures) (first_field _ _ _ c.in_ok-second.ensures) (first_field _ _ _ c.in_ok-third.ensures)
