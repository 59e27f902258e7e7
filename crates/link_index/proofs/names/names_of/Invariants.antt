use Rattle.std.proofs.Common.{◌≡◌, [], map, take}
use Rattle.verilog_net.specs.Bits.{bits}
use Rattle.link_index.specs.Names.{with_names, AreNames}
use Rattle.link_index.proofs.names.names_of.Given as goal

abbrev pub invariant-loop-number : goal.invariant-loop-number
invariant-loop-number l = record {
  names : l.names ≡ with_names [] (map (λ b. b.name) (bits (take l.number l.netlist.nets)));
  spelled : AreNames l.names;
}
