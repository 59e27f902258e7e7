use Rattle.std.proofs.Common.{◌≡◌, take}
use Rattle.hier_flatten.proofs.below.add_top.Given as goal

abbrev pub invariant-loop-number : goal.invariant-loop-number
invariant-loop-number l = l.growing ≡ record l.initial.growing { nets = take l.number l.nets }
