-- The wire of a net whose nodes are all one.
use Rattle.std.specs.Prelude.{ℕ, ℤ, [], ◌∷◌, replicate}
use Rattle.link_wires.specs.declared.wire.NetWire.{NetWire}

-- one node with this capacitance to ground in aF and this number of sinks, without resistors and couplings
abbrev pub plain_wire : (ground : ℤ) → (sinks : ℕ) → NetWire
plain_wire ground sinks = record {
  couplings = [];
  tree = record { nodes = 1; root = 0; resistors = []; ground = ground ∷ []; taps = []; sinks = replicate sinks 0 };
}
