use Rattle.std.proofs.Common.{◌≡◌, ◌*◌, ◌^◌, ◌≤◌, take}
use Rattle.design_link.specs.Sizes.{couplings_sum}
use Rattle.design_link.proofs.sizes.couplings_in_all.Given as goal

abbrev pub invariant-loop-wire : goal.invariant-loop-wire
invariant-loop-wire l = (l.total ≡ couplings_sum (take l.wire-index l.wires)) × (l.total ≤ l.wire-index * 2 ^ 64)
