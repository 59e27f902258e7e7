use Rattle.std.proofs.Common.{◌≡◌, take}
use Rattle.eco_warm.proofs.copy.checks.Given as goal

abbrev pub invariant-loop-each : goal.invariant-loop-each
invariant-loop-each l = l.once_more.items ≡ take l.each-index l.of
