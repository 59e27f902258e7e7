-- The check points of a design: at input pins of flip-flops, then at output ports.
use Rattle.std.specs.Prelude.{ℕ, ◌+◌, Bool, true, false, ◌||◌, List, [], ◌∷◌, ◌++◌, length, flat_map, filter_map}
use Rattle.std.specs.Prelude.{ℤ, Option, Some, None, is_some, if◌then◌else◌}
use Rattle.xt_model.specs.Options.{◌>>=◌}
use Rattle.name_numbers.specs.Names.{Text}
use Rattle.xt_model.specs.declared.check.CheckPoint.{CheckPoint}
use Rattle.xt_model.specs.declared.check.CheckPoint.TheVariants as checks
use Rattle.liberty_cells.specs.declared.library.Library.{Library}
use Rattle.liberty_cells.specs.declared.timing.Timing.{Timing}
use Rattle.liberty_cells.specs.declared.timing.TimingKind.{TimingKind}
use Rattle.liberty_cells.specs.declared.timing.TimingKind.TheVariants as kinds
use Rattle.verilog_net.specs.declared.netlist.Netlist.{Netlist}
use Rattle.verilog_net.specs.declared.netlist.PortRole.{PortRole}
use Rattle.verilog_net.specs.declared.netlist.PortRole.TheVariants as roles
use Rattle.sdc_read.specs.declared.constraints.Constraints.{Constraints}
use Rattle.sdc_read.specs.declared.ports.PortSet.{PortSet}
use Rattle.sdc_read.specs.Ports.{port_at}
use Rattle.verilog_net.specs.Bits.{Bit, bits}
use Rattle.link_rules.specs.Pins.{Connected, end_of, is_input, pins, inputs_on}
use Rattle.link_rules.specs.Ends.{sink_name}
use Rattle.link_rules.specs.Arcs.{sink_at}

-- whether a timing group is a check, and then whether it is one of hold
abbrev pub side_of : TimingKind → Option Bool
side_of kinds.SetupRising = Some false
side_of kinds.HoldRising = Some true
side_of _ = None

module _ (library : Library) (netlist : Netlist) where
  -- the point of an input pin against a related pin, where both are sinks of nets
  abbrev pub flop_check : Connected → Timing → Bool → Text → Option CheckPoint
  flop_check c t hold related = do
    datum ← sink_at library netlist c.instance c.pin.name
    clock ← sink_at library netlist c.instance related
    Some (checks.Flop (sink_name (end_of c)) hold (record { 0 = datum.0 }) datum.1 (record { 0 = clock.0 }) clock.1
        t.rise t.fall)

  -- the points of a timing group: its related pins in order
  abbrev pub group_checks : Connected → Timing → Option Bool → List CheckPoint
  group_checks c t None = []
  group_checks c t (Some hold) = filter_map (flop_check c t hold) t.related

  -- the points of an input pin: its timing groups in the order of the library
  abbrev pub pin_checks : Connected → List CheckPoint
  pin_checks c =
      if is_input c.pin.role then flat_map (λ t. group_checks c t (side_of t.kind)) c.pin.timings else []

  -- the points of all input pins: instances in the order of the text, pins in the order of the text
  unfoldable pub flop_checks : List CheckPoint
  flop_checks = flat_map pin_checks (pins library netlist)

-- one side of an output port has a point where one of its edges has a number
abbrev pub side_check : Text → Bool → ℕ → ℕ → Option ℤ → Option ℤ → List CheckPoint
side_check name hold net sink rise fall =
    if is_some rise || is_some fall
    then checks.Port name hold (record { 0 = net }) sink rise fall ∷ []
    else []

-- the points of an output port at a sink: setup by its greatest delays, then hold by its least
abbrev pub set_checks : Text → ℕ → ℕ → Option PortSet → List CheckPoint
set_checks name net sink None = []
set_checks name net sink (Some set) =
    side_check name false net sink set.output.rise_max set.output.fall_max
    ++ side_check name true net sink set.output.rise_min set.output.fall_min

module _ (library : Library) (netlist : Netlist) (constraints : Constraints) where
  -- an output port is the last sink of its net
  abbrev pub port_checks : ℕ → Bit → PortRole → List CheckPoint
  port_checks net b roles.Output =
      set_checks b.name net (length (inputs_on library netlist net)) (port_at b.decl b.bit constraints.ports)
  port_checks net b _ = []

  abbrev pub port_checks_from : ℕ → List Bit → List CheckPoint
  port_checks_from net [] = []
  port_checks_from net (b ∷ more) = port_checks net b b.role ++ port_checks_from (net + 1) more

  -- all points: those of flip-flops, then those of output ports in order
  unfoldable pub checks_of : List CheckPoint
  checks_of = flop_checks library netlist ++ port_checks_from 0 (bits netlist.nets)
