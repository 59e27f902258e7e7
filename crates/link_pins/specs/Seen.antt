-- What the values of the code stand for.
use Rattle.std.specs.Prelude.{◌≡◌, ℕ, List, map, Option, Some}
use Rattle.std.specs.List.{slice_get}
use Rattle.xt_model.specs.Options.{◌>>=◌}
use Rattle.liberty_cells.specs.declared.library.Library.{Library}
use Rattle.liberty_cells.specs.Pins.{PinParts}
use Rattle.verilog_net.specs.declared.netlist.Netlist.{Netlist}
use Rattle.verilog_net.specs.declared.netlist.PortRole.{PortRole}
use Rattle.verilog_net.specs.Nets.{Nets}
use Rattle.verilog_net.specs.Bits.{Bit, bits}
use Rattle.link_rules.specs.Pins.{Connected, pins}
use Rattle.text_forms.specs.Names.{IsShortName}
use Rattle.link_pins.specs.declared.bits.BitAt.{BitAt}
use Rattle.link_pins.specs.declared.pins.PinOn.{PinOn}

-- a bit without its name
abbrev pub bit_at : Bit → BitAt
bit_at b = record { decl = b.decl; bit = b.bit; role = b.role }

-- the bit of a bus of this number
abbrev pub numbered_bit : ℕ → PortRole → ℕ → BitAt
numbered_bit decl role k = record { decl = decl; bit = k; role = role }

-- these are all bits, in order
abbrev pub AreBits : Nets → List BitAt → Type 0
AreBits nets ats = ats ≡ map bit_at (bits nets)

-- the pin of the library that is meant
abbrev pub pin_at : Library → PinOn → Option PinParts
pin_at library p = do
  cell ← slice_get library.cells p.cell
  slice_get cell.pins p.pin

-- the pin of an instance that is meant by places in the netlist and in the library
abbrev pub connected_at : Library → Netlist → PinOn → Option Connected
connected_at library netlist p = do
  instance ← slice_get netlist.instances p.instance
  pin ← pin_at library p
  Some (record { instance = p.instance; owner = instance.name; pin = pin; net = p.net })

-- the names of the instance and of the pin are short
abbrev pub HasShortNames : Connected → Type 0
HasShortNames c = IsShortName c.owner × IsShortName c.pin.name

-- these are all pins on nets, in order
abbrev pub ArePins : Library → Netlist → List PinOn → Type 0
ArePins library netlist ps = map (connected_at library netlist) ps ≡ map Some (pins library netlist)
