use Rattle.std.proofs.Common.{Err, ap, inl, inr, refl}
use Rattle.call_files.proofs.input.read_file.Goals as goal

pub returns-in-Ok-clause-whole : goal.returns-in-Ok-clause-whole
returns-in-Ok-clause-whole g c = rw c.as_str.ensures at c.in-Ok.ensures.whole

pub returns-in-Ok-clause-answer : goal.returns-in-Ok-clause-answer
returns-in-Ok-clause-answer g c = (refl, c.in-Ok.ensures.kept (λ e. absurd cc))

pub returns-in-Err-Fault-clause-answer : goal.returns-in-Err-Fault-clause-answer
returns-in-Err-Fault-clause-answer g c = (
  (inl refl, ((rw c.as_str.ensures at c.in-Err-Fault.ensures.fault) (ap Err c.in-Err-Fault.field-0-is), rw c.as_str.ensures at c.in-Err-Fault.ensures.others)),
  λ other. absurd (other refl),
)

pub returns-in-Err-TooLong-clause-answer : goal.returns-in-Err-TooLong-clause-answer
returns-in-Err-TooLong-clause-answer g c = (
  inr (inl ((rw c.as_str.ensures at c.in-Err-TooLong.ensures.longer) (ap Err c.in-Err-TooLong.field-0-is), refl)),
  λ _. c.in-Err-TooLong.ensures.kept (λ e. absurd cc),
)

pub returns-in-Err-NoMemory-clause-answer : goal.returns-in-Err-NoMemory-clause-answer
returns-in-Err-NoMemory-clause-answer g c = (tt, λ _. c.in-Err-NoMemory.ensures.kept (λ e. absurd cc))

pub returns-in-Ok-clause-opened : goal.returns-in-Ok-clause-opened
returns-in-Ok-clause-opened g c = rw c.as_str.ensures at c.read_whole.ensures.opened

pub returns-in-Err-Fault-clause-opened : goal.returns-in-Err-Fault-clause-opened
returns-in-Err-Fault-clause-opened g c = rw c.as_str.ensures at c.read_whole.ensures.opened

pub returns-in-Err-TooLong-clause-opened : goal.returns-in-Err-TooLong-clause-opened
returns-in-Err-TooLong-clause-opened g c = rw c.as_str.ensures at c.read_whole.ensures.opened

pub returns-in-Err-NoMemory-clause-opened : goal.returns-in-Err-NoMemory-clause-opened
returns-in-Err-NoMemory-clause-opened g c = rw c.as_str.ensures at c.read_whole.ensures.opened
