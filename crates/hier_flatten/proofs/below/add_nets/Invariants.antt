use Rattle.std.proofs.Common.{◌≡◌, ◌++◌, take}
use Rattle.hier_flatten.specs.Flat.{own_nets}
use Rattle.hier_flatten.proofs.below.add_nets.Given as goal

abbrev pub invariant-loop-number : goal.invariant-loop-number
invariant-loop-number l = record {
  nets : l.growing ≡ record l.initial.growing {
    nets = l.initial.growing.nets ++ own_nets l.initial.path.items (take l.number l.nets) (take l.number l.wires);
  };
  path : l.path.items ≡ l.initial.path.items;
}
