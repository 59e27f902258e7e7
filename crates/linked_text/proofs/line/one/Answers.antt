use Rattle.std.proofs.Common.{refl}
use Rattle.linked_text.proofs.Splits.{first_field, last_field, one_none}
use Rattle.linked_text.proofs.line.one.Goals as goal

pub returns-in-Some : goal.returns-in-Some
returns-in-Some c = one_none _ c.in-Some.field-0.1.now _ (first_field _ _ _ c.in-Some.ensures)

pub returns-in-None : goal.returns-in-None
returns-in-None c = rw (last_field _ c.in-None.ensures) refl
