use Rattle.std.proofs.Common.{◌≡◌, ◌++◌, map, take}
use Rattle.xt_model.specs.Couples.{pair_of}
use Rattle.xt_model.proofs.pairs.push_pairs.Given as goal

abbrev pub invariant-loop-coupling : goal.invariant-loop-coupling
invariant-loop-coupling l = l.pairs.items ≡ l.initial.pairs.items ++ map (λ k. pair_of l.own k.to.0) (take l.coupling-index l.couplings)
