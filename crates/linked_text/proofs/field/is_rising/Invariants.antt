use Rattle.std.proofs.Common.{◌≡◌, drop}
use Rattle.linked_text.specs.Fields.{rises_from, is_rising}
use Rattle.linked_text.proofs.field.is_rising.Given as goal

abbrev pub invariant-loop-x : goal.invariant-loop-x
invariant-loop-x l = rises_from l.last (drop l.x-index l.others) ≡ is_rising l.fn.xs
