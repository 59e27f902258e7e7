use Rattle.std.proofs.Common.{◌≡◌, ◌++◌, map, take}
use Rattle.net_eval.proofs.reads.push_around.Given as goal

abbrev pub invariant-loop-coupling : goal.invariant-loop-coupling
invariant-loop-coupling l = l.numbers.items ≡ l.initial.numbers.items ++ map (λ k. k.to.0) (take l.coupling-index l.coupling-items)
