use Rattle.std.proofs.Common.{◌≡◌, map, take}
use Rattle.verilog_net.specs.Bits.{bit_name, numbers_of}
use Rattle.link_index.specs.Names.{with_names, AreNames}
use Rattle.link_index.proofs.names.add_bus.Given as goal

abbrev pub invariant-loop-place : goal.invariant-loop-place
invariant-loop-place l = record {
  names : l.names ≡ with_names l.initial.names (map (bit_name l.name) (take l.place (numbers_of (l.left, l.right))));
  spelled : AreNames l.names;
}
