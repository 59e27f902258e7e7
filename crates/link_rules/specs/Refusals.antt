-- What is refused at an instance, at a net, and of the whole.
use Rattle.std.specs.Prelude.{◌≡◌, ℕ, Bool, true, false, not, ◌||◌, ◌&&◌, nat_le, List, [], ◌∷◌, length, take}
use Rattle.std.specs.Prelude.{Option, Some, None, is_some, is_none, if◌then◌else◌}
use Rattle.std.specs.List.{All, list_any, slice_get}
use Rattle.std.specs.Option.{IsSomeAnd}
use Rattle.name_numbers.specs.Names.{Text}
use Rattle.xt_model.specs.declared.check.CheckPoint.{CheckPoint}
use Rattle.xt_model.specs.declared.check.CheckPoint.TheVariants as checks
use Rattle.xt_model.specs.declared.fault.LimitKind.TheVariants as limits
use Rattle.xt_model.specs.Parts.{Parts}
use Rattle.liberty_cells.specs.declared.cell.Cell.{Cell}
use Rattle.liberty_cells.specs.declared.library.Library.{Library}
use Rattle.liberty_cells.specs.declared.pin.Role.{Role}
use Rattle.liberty_cells.specs.declared.pin.Role.TheVariants as roles
use Rattle.liberty_cells.specs.declared.timing.Timing.{Timing}
use Rattle.liberty_cells.specs.declared.timing.TimingKind.{TimingKind}
use Rattle.liberty_cells.specs.declared.timing.TimingKind.TheVariants as kinds
use Rattle.liberty_cells.specs.Pins.{PinParts}
use Rattle.verilog_net.specs.declared.netlist.Instance.{Instance}
use Rattle.verilog_net.specs.declared.netlist.Wire.{Wire}
use Rattle.verilog_net.specs.declared.netlist.Netlist.{Netlist}
use Rattle.spef_read.specs.declared.parasitics.Parasitics.{Parasitics}
use Rattle.elmore_tree.specs.Forms.{IsAcceptedTree}
use Rattle.elmore_tree.specs.Paths.{IsMeshed, IsLeastUnreached}
use Rattle.link_rules.specs.declared.fault.LinkFault.{LinkFault}
use Rattle.link_rules.specs.declared.fault.LinkFault.TheVariants as faults
use Rattle.link_rules.specs.declared.fault.LinkRefusal.TheVariants as refusals
use Rattle.link_rules.specs.Pins.{cell_named, pin_named, is_input}
use Rattle.link_rules.specs.Circuit.{Numbered, numbered, drivers_of}
use Rattle.link_rules.specs.Wires.{listed}
use Rattle.link_rules.specs.Bare as bare
use Rattle.xt_model.specs.Limits.{most_nodes}
use Rattle.link_rules.specs.Limits.{or_fault, passed, most_load, greatest_load}

-- ---- cells that are not taken

abbrev pub is_inout : Role → Bool
is_inout roles.Inout = true
is_inout _ = false

abbrev pub is_unsupported : TimingKind → Bool
is_unsupported kinds.Unsupported = true
is_unsupported _ = false

-- the tables of the timing group are read: its arcs or checks count
abbrev pub is_read : TimingKind → Bool
is_read kinds.Combinational = true
is_read kinds.RisingEdge = true
is_read kinds.SetupRising = true
is_read kinds.HoldRising = true
is_read _ = false

-- the name is that of a pin, but of no input pin
abbrev pub is_no_input : Option PinParts → Bool
is_no_input None = false
is_no_input (Some p) = not (is_input p.role)

-- a timing group that is not taken: an unsupported one, or one that is read with a related pin of its cell that is no
-- input pin
abbrev pub is_odd_timing : Cell → Timing → Bool
is_odd_timing cell t =
    is_unsupported t.kind || is_read t.kind && list_any (λ related. is_no_input (pin_named cell related)) t.related

abbrev pub is_odd_pin : Cell → PinParts → Bool
is_odd_pin cell p = is_inout p.role || list_any (is_odd_timing cell) p.timings

-- a cell that is not taken: a latch, or one with an inout pin or such a timing group
unfoldable pub is_odd_cell : Cell → Bool
is_odd_cell cell = cell.latch || list_any (is_odd_pin cell) cell.pins

-- ---- instances

-- the first connection to a pin that the cell does not have
abbrev pub pin_fault : Cell → Text → List (Text × Wire) → Option LinkFault
pin_fault cell instance [] = None
pin_fault cell instance (c ∷ more) =
    if is_none (pin_named cell c.0) then Some (faults.Refused (refusals.K2 instance c.0))
    else pin_fault cell instance more

-- the cell comes first, then whether it is taken, then the pins in order
abbrev pub cell_fault : Instance → Option Cell → Option LinkFault
cell_fault instance None = Some (faults.Refused (refusals.K1 instance.name instance.cell))
cell_fault instance (Some cell) =
    if is_odd_cell cell then Some (faults.Refused (refusals.K9 instance.name instance.cell))
    else pin_fault cell instance.name instance.pins

-- the first refusal of instances in the order of the text
abbrev pub instances_fault : Library → List Instance → Option LinkFault
instances_fault library [] = None
instances_fault library (i ∷ more) =
    or_fault (cell_fault i (cell_named library i.cell)) (instances_fault library more)

unfoldable pub instance_fault : Library → Netlist → Option LinkFault
instance_fault library netlist = instances_fault library netlist.instances

-- ---- drivers

-- a net has one driver at most
abbrev pub drivers_fault : Library → Netlist → List Numbered → Option LinkFault
drivers_fault library netlist [] = None
drivers_fault library netlist (n ∷ more) =
    if nat_le (length (drivers_of library netlist n)) 1 then drivers_fault library netlist more
    else Some (faults.Refused (refusals.K3 n.1.name))

-- the first net with two drivers
unfoldable pub driver_fault : Library → Netlist → Option LinkFault
driver_fault library netlist = drivers_fault library netlist (numbered netlist)

-- ---- wires

module _ (netlist : Netlist) (parasitics : Parasitics) where
  -- the limits of a net: nodes, where it has a driver and a wire is listed, and then its greatest load
  abbrev pub node_fault : bare.Numbered → Option LinkFault
  node_fault n =
      if is_some (listed netlist parasitics n.1)
      then passed limits.Nodes (Some n.1.name) (length (bare.nodes netlist parasitics n)) most_nodes
      else None

  unfoldable pub net_limit : bare.Numbered → Option LinkFault
  net_limit n =
      or_fault (node_fault n)
      (passed limits.Load (Some n.1.name) (greatest_load (bare.tree netlist parasitics n)) most_load)

  -- the wire of a net is accepted: it keeps its limits, and is a tree that reaches all
  pub record IsAcceptedWire (n : bare.Numbered) : Type 0 where
    pub limit : net_limit n ≡ None
    pub wire : IsAcceptedTree (bare.tree netlist parasitics n)

  -- a node that has to be reached and is not, by its name
  abbrev pub IsUnreached : bare.Numbered → Text → Type 0
  IsUnreached n node =
      (k : ℕ) × IsLeastUnreached (bare.tree netlist parasitics n) k
      × (slice_get (bare.nodes netlist parasitics n) k ≡ Some node)

  -- the fault of a net: a limit first, then resistors that make no tree, then a node that is not reached
  abbrev pub IsWireFault : bare.Numbered → LinkFault → Type 0
  IsWireFault n (faults.Refused (refusals.K5 net)) =
      (net_limit n ≡ None) × (net ≡ n.1.name) × IsMeshed (bare.tree netlist parasitics n)
  IsWireFault n (faults.Refused (refusals.K6 net node)) =
      (net_limit n ≡ None) × (net ≡ n.1.name) × (IsMeshed (bare.tree netlist parasitics n) → ⊥) × IsUnreached n node
  IsWireFault n (faults.Limit what name value) = net_limit n ≡ Some (faults.Limit what name value)
  IsWireFault n _ = ⊥

  -- the wires of all nets are accepted
  abbrev pub AreAcceptedWires : List bare.Numbered → Type 0
  AreAcceptedWires nets = All IsAcceptedWire nets

  -- the fault of the first net that has one
  pub record IsFirstWireFault (nets : List bare.Numbered) (fault : LinkFault) : Type 0 where
    pub place : ℕ
    pub at : IsSomeAnd (slice_get nets place) (λ n. IsWireFault n fault)
    pub before : AreAcceptedWires (take place nets)

-- ---- checks

abbrev pub check_name : CheckPoint → Text
check_name (checks.Flop name hold datum datum_sink clock clock_sink rise fall) = name
check_name (checks.Port name hold net sink rise fall) = name

abbrev pub unclocked : List CheckPoint → Option LinkFault
unclocked [] = None
unclocked (c ∷ more) = Some (faults.Refused (refusals.K7 (check_name c)))

-- the first check, where there is no clock
unfoldable pub clock_fault : Parts → Option LinkFault
clock_fault d = if is_some d.period then None else unclocked d.checks
