use Rattle.std.proofs.Common.{◌≡◌, ◌++◌, [], take}
use Rattle.hier_flatten.specs.Flat.{own_nets, ranges_of}
use Rattle.hier_flatten.proofs.counting.count_nets.Given as goal

abbrev pub invariant-loop-number : goal.invariant-loop-number
invariant-loop-number l = l.tally ≡ record l.initial.tally {
  ranges = l.initial.tally.ranges ++ ranges_of (own_nets [] (take l.number l.nets) (take l.number l.wires));
}
