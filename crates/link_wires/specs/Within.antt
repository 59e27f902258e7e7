-- The wire of a net whose nodes are known, and its faults.
use Rattle.std.specs.Prelude.{◌≡◌, Bool, List, Some, None}
use Rattle.name_numbers.specs.Names.{Text}
use Rattle.elmore_tree.specs.Forms.{IsAcceptedTree}
use Rattle.link_rules.specs.declared.circuit.NetPins.{NetPins}
use Rattle.link_rules.specs.declared.fault.LinkFault.{LinkFault}
use Rattle.link_rules.specs.declared.fault.LinkFault.TheVariants as faults
use Rattle.link_rules.specs.Wires.{Wire, couplings_of, tree_by}
use Rattle.link_wires.specs.declared.wire.NetWire.{NetWire}
use Rattle.link_wires.specs.WireFaults.{IsTreeFault, IsTreeWithin, limit_at}

-- the wire of a net that passes no limit and whose tree is accepted
pub record IsWireWithin (listed : Bool) (p : NetPins) (nodes : List Text) (w : Wire) (made : NetWire) : Type 0 where
  pub couplings : made.couplings ≡ couplings_of w
  pub tree : IsTreeWithin listed p nodes w made.tree
  pub accepted : IsAcceptedTree made.tree

-- the fault of a net: the limit that it passes, else the fault of its tree; want of memory is always free
abbrev pub IsFaultWithin : Bool → NetPins → List Text → Wire → LinkFault → Type 0
IsFaultWithin listed p nodes w faults.NoMemory = Unit {0}
IsFaultWithin listed p nodes w (faults.Refused r) =
    (limit_at listed p nodes w ≡ None) × IsTreeFault (tree_by nodes p.sinks w) p.name nodes (faults.Refused r)
IsFaultWithin listed p nodes w fault = limit_at listed p nodes w ≡ Some fault
