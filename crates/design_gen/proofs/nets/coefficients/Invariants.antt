use Rattle.std.proofs.Common.{◌≡◌, map, take, pos, ◌*ℤ◌}
use Rattle.design_gen.proofs.nets.coefficients.Given as goal

abbrev pub invariant-loop-coupling : goal.invariant-loop-coupling
invariant-loop-coupling l = l.coefs.items ≡ map (λ k. pos 100000 *ℤ k.cap) (take l.coupling-index l.couplings)
