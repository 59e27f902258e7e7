use Rattle.std.proofs.Common.{◌≡◌, ◌≤◌, drop}
use Rattle.design_gen.specs.Lists.{each_below}
use Rattle.design_gen.specs.Generated.{generated_net}
use Rattle.design_gen.proofs.design.nets_within.Given as goal

abbrev pub invariant-loop-i : goal.invariant-loop-i
invariant-loop-i l = (l.nets.items ≡ drop l.from (each_below (generated_net l.drawn.number l.drawn.nets) l.i)) × (l.from ≤ l.i)
