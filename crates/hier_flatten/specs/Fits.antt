-- Connections that do not fit: a whole bus at a cell's instance; at a module's instance a pin that is no port of the
-- module, or something of another width than the port.
use Rattle.std.specs.Prelude.{ℕ, ◌==◌, ◌&&◌, Bool, true, false, List, [], ◌∷◌, Option, Some, None, if◌then◌else◌}
use Rattle.std.specs.List.{slice_get, list_all}
use Rattle.name_numbers.specs.Names.{Text, found}
use Rattle.verilog_net.specs.declared.netlist.Net.{Net}
use Rattle.verilog_net.specs.declared.netlist.Instance.{Instance}
use Rattle.verilog_net.specs.declared.netlist.Netlist.{Netlist}
use Rattle.verilog_net.specs.declared.netlist.Wire.{Wire}
use Rattle.verilog_net.specs.declared.netlist.Wire.TheVariants as wires
use Rattle.verilog_net.specs.Nets.{Nets, is_directed}
use Rattle.hier_flatten.specs.Places.{width_of}
use Rattle.hier_flatten.specs.Hierarchy.{module_of}

-- the range of a net by its number
abbrev pub range_in : Option (Text × Net) → Option (ℕ × ℕ)
range_in None = None
range_in (Some e) = e.1.range

abbrev pub range_at : ℕ → Nets → Option (ℕ × ℕ)
range_at decl nets = range_in (slice_get nets decl)

-- a connection is as wide as a port: a bit and a constant are one bit wide, and nothing fits every port
abbrev pub has_width : Nets → ℕ → Wire → Bool
has_width nets width wires.Open = true
has_width nets width wires.Constant = 1 == width
has_width nets width (wires.Bit decl bit) = 1 == width
has_width nets width (wires.Whole decl) = width_of (range_at decl nets) == width

-- a port that a pin names, and what the pin is connected to
abbrev pub port_fits : Nets → Option (ℕ × Net) → Wire → Bool
port_fits nets None wire = false
port_fits nets (Some port) wire = is_directed port.1.role && has_width nets (width_of port.1.range) wire

-- a pin of an instance, whose module's nets are `inner`, in a module whose nets are `outer`
abbrev pub pin_fits : Nets → Nets → Text × Wire → Bool
pin_fits outer inner pin = port_fits outer (found pin.0 inner) pin.1

-- at an instance of a cell a whole bus does not fit
abbrev pub cell_pin_fits : Text × Wire → Bool
cell_pin_fits (name, wires.Whole decl) = false
cell_pin_fits _ = true

abbrev pub pins_fit : Nets → Option Netlist → List (Text × Wire) → Bool
pins_fit outer None pins = list_all cell_pin_fits pins
pins_fit outer (Some m) pins = list_all (pin_fits outer m.nets) pins

abbrev pub instance_fits : List Netlist → Nets → Instance → Bool
instance_fits modules nets i = pins_fit nets (module_of modules i.cell) i.pins

-- the line of the first of these instances of a module that does not fit
abbrev pub misfit_from : List Netlist → Nets → List Instance → Option ℕ
misfit_from modules nets [] = None
misfit_from modules nets (i ∷ is) = if instance_fits modules nets i then misfit_from modules nets is else Some i.line

abbrev pub first_of : Option ℕ → Option ℕ → Option ℕ
first_of None more = more
first_of (Some line) more = Some line

-- the same in these modules
abbrev pub misfit_in : List Netlist → List Netlist → Option ℕ
misfit_in modules [] = None
misfit_in modules (m ∷ more) = first_of (misfit_from modules m.nets m.instances) (misfit_in modules more)

-- the line of the first instance of a text with a connection that does not fit
unfoldable pub misfit : List Netlist → Option ℕ
misfit modules = misfit_in modules modules
