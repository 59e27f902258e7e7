-- What is asked of the parts of a wire, and what the wires of all nets are.
use Rattle.std.specs.Prelude.{◌≡◌, ℕ, ◌<◌, pos, ◌≤ℤ◌, List, length, true, Some}
use Rattle.std.specs.List.{All, sum_by, slice_get}
use Rattle.std.specs.Int.RustNames.{unsigned_abs}
use Rattle.name_numbers.specs.Names.{Text, number_of}
use Rattle.xt_model.specs.Names.{IsName}
use Rattle.verilog_net.specs.declared.netlist.Netlist.{Netlist}
use Rattle.spef_read.specs.declared.parasitics.Parasitics.{Parasitics}
use Rattle.link_rules.specs.declared.circuit.Sink.{Sink}
use Rattle.link_rules.specs.declared.circuit.NetPins.{NetPins}
use Rattle.link_rules.specs.declared.fault.LinkFault.{LinkFault}
use Rattle.link_rules.specs.declared.fault.LinkFault.TheVariants as faults
use Rattle.xt_number.specs.Quantities.{IsQuantity}
use Rattle.link_rules.specs.Wires.{Wire, Charge, names_on, has_resistors, couplings_of}
use Rattle.link_rules.specs.Bare as bare
use Rattle.link_rules.specs.Refusals.{IsAcceptedWire, IsWireFault, IsFirstWireFault}
use Rattle.link_wires.specs.declared.wire.NetWire.{NetWire}

-- the names of a wire's nodes are names
abbrev pub HasNames : Wire → Type 0
HasNames w = All IsName (names_on w)

-- the capacitances and resistances of a wire are quantities
pub record HasQuantities (w : Wire) : Type 0 where
  pub total : IsQuantity w.total
  pub caps : All (λ c. IsQuantity c.value) w.caps
  pub resistors : All (λ r. IsQuantity r.value) w.resistors

-- the capacitances of the sinks of nets are quantities
abbrev pub HasSinkQuantities : NetPins → Type 0
HasSinkQuantities p = All (λ s. IsQuantity s.cap) p.sinks

-- all capacitance to ground, in aF
abbrev pub charge_sum : List Charge → ℕ
charge_sum charges = sum_by (λ c. unsigned_abs c.1) charges

-- the nodes are there
abbrev pub AreWithin : ℕ → List Charge → Type 0
AreWithin count charges = All (λ c. c.0 < count) charges

-- the nodes of a wire have numbers: its sinks, where nodes are apart, and the nodes of its capacitors and resistors
pub record IsNumbered (nodes : List Text) (ends : List Sink) (w : Wire) : Type 0 where
  pub sinks : has_resistors w ≡ true → length ends < length nodes
  pub caps : All (λ c. number_of c.node nodes < length nodes) w.caps
  pub a : All (λ r. number_of r.a nodes < length nodes) w.resistors
  pub b : All (λ r. number_of r.b nodes < length nodes) w.resistors

-- none is below 0
abbrev pub AreNatural : List Charge → Type 0
AreNatural charges = All (λ c. pos 0 ≤ℤ c.1) charges

module _ (netlist : Netlist) (parasitics : Parasitics) where
  -- the wire of a net, which is accepted
  pub record IsWireOf (n : bare.Numbered) (w : NetWire) : Type 0 where
    pub couplings : w.couplings ≡ couplings_of (bare.wire netlist parasitics n)
    pub tree : w.tree ≡ bare.tree netlist parasitics n
    pub accepted : IsAcceptedWire netlist parasitics n

  -- the wires of nets, one for each
  pub record AreWires (nets : List bare.Numbered) (wires : List NetWire) : Type 0 where
    pub count : length wires ≡ length nets
    pub each : (i : ℕ) (n : bare.Numbered) (w : NetWire) → slice_get nets i ≡ Some n → slice_get wires i ≡ Some w
        → IsWireOf n w

  -- the fault of a net; want of memory is always free
  abbrev pub IsNetFault : bare.Numbered → LinkFault → Type 0
  IsNetFault n faults.NoMemory = Unit {0}
  IsNetFault n fault = IsWireFault netlist parasitics n fault

  -- the fault of the first net that has one; want of memory is always free
  abbrev pub IsFirstFault : List bare.Numbered → LinkFault → Type 0
  IsFirstFault nets faults.NoMemory = Unit {0}
  IsFirstFault nets fault = IsFirstWireFault netlist parasitics nets fault
