use Rattle.std.proofs.Common.{◌≡◌, ◌*◌, ◌^◌, ◌≤◌, take}
use Rattle.std.specs.List.{sum_by}
use Rattle.xt_model.specs.Parts.{Parts}
use Rattle.xt_model.specs.Sound.{reads_of}
use Rattle.design_link.specs.Sizes.{plain_nets, arcs_sum}
use Rattle.design_link.proofs.sizes.reads_in_all.Given as goal

abbrev pub invariant-loop-k : goal.invariant-loop-k
invariant-loop-k l =
    ((d : Parts) → d.nets ≡ plain_nets l.nets l.wires → l.total ≡ sum_by (reads_of d) (take l.k (plain_nets l.nets l.wires)))
    × (l.total ≤ arcs_sum (take l.k l.nets) * 2 ^ 65)
