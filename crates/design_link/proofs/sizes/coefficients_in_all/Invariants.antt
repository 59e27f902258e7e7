use Rattle.std.proofs.Common.{◌≡◌, ◌*◌, ◌^◌, ◌≤◌, take}
use Rattle.std.specs.List.{sum_by}
use Rattle.xt_model.specs.Sound.{coefficients_of}
use Rattle.design_link.specs.Sizes.{plain_nets, couplings_sum}
use Rattle.design_link.proofs.sizes.coefficients_in_all.Given as goal

abbrev pub invariant-loop-k : goal.invariant-loop-k
invariant-loop-k l = (l.total ≡ sum_by coefficients_of (take l.k (plain_nets l.nets l.wires))) × (l.total ≤ 2 ^ 64 * couplings_sum (take l.k l.wires))
