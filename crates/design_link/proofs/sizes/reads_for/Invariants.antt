use Rattle.std.proofs.Common.{◌≡◌, ◌+◌, ◌*◌, ◌^◌, ◌≤◌, take}
use Rattle.design_link.proofs.ReadLaws.{looked_at}
use Rattle.design_link.proofs.sizes.reads_for.Given as goal

abbrev pub invariant-loop-arc : goal.invariant-loop-arc
invariant-loop-arc l = (l.total ≡ 1 + l.own + looked_at l.wires (take l.arc-index l.arcs)) × (l.total ≤ (1 + l.arc-index) * 2 ^ 64)
