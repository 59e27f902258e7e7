-- What commands said of ports, as it is kept: a mention for each name, and one for all ports of a direction.
use Rattle.std.specs.Prelude.{◌≡◌, ℕ, Bool, false, not, ◌&&◌, ◌==◌, if◌then◌else◌, nat_le, List, [], map, length}
use Rattle.std.specs.Prelude.{ℤ, Option, Some, None, IfSome, option_map}
use Rattle.std.specs.List.{All, slice_get}
use Rattle.verilog_net.specs.declared.netlist.Net.{Net}
use Rattle.verilog_net.specs.declared.netlist.PortRole.{PortRole}
use Rattle.verilog_net.specs.declared.port.PortFound.{PortFound}
use Rattle.verilog_net.specs.declared.port.PortFound.TheVariants as found_ports
use Rattle.verilog_net.specs.Nets.{Nets}
use Rattle.verilog_net.specs.Ports.{bits_of}
use Rattle.sdc_read.specs.declared.change.Bits as of_code
use Rattle.sdc_read.specs.declared.change.Change.{Change}
use Rattle.sdc_read.specs.declared.constraints.Clock.{Clock}
use Rattle.sdc_read.specs.declared.mentions.Mention.{Mention}
use Rattle.sdc_read.specs.declared.ports.PortBit.{PortBit}
use Rattle.sdc_read.specs.Ports.{Ports}
use Rattle.sdc_read.specs.Changes.{Bits, role_for, over_first, change_bits, is_input_delay, is_clock, IsChange}
use Rattle.sdc_read.specs.Objects.{bits_if, same_role, over_all, change_if}
use Rattle.sdc_read.specs.Meaning.{State, bit_of}
use Rattle.sdc_read.specs.View.{bits_text}

-- ---- nets without their names

abbrev pub nets_of : Nets → List Net
nets_of nets = map (λ e. e.1) nets

-- the bits of a net, where there is one
abbrev pub found_bits : ℕ → Option Net → PortFound
found_bits i (Some net) = bits_of i net
found_bits i None = found_ports.Absent

-- the bits of a net, if it is a port of this direction
abbrev pub port_bits : PortRole → List Net → ℕ → Option Bits
port_bits wanted ns i = bits_if wanted (found_bits i (slice_get ns i))

-- ---- what mentions mean

-- what was said once, of some bits or of all ports of the direction
abbrev pub step_for : List Net → Option PortBit → Change → Option of_code.Bits → Ports → Ports
step_for ns clock c (Some b) ps = change_bits clock c (bits_text b) ps
step_for ns clock c None ps = over_first (λ i. change_if clock c (port_bits (role_for c) ns i)) (length ns) ps

abbrev pub step : List Net → Mention → Ports → Ports
step ns m ps = step_for ns m.clock m.change m.bits ps

-- what is set by mentions, one after another
abbrev pub told : List Net → List Mention → Ports
told ns ms = over_all (step ns) ms []

-- ---- the bits that a mention is for

-- from one bit to another
abbrev pub is_within : ℕ → ℕ → ℕ → Bool
is_within first last bit =
    if nat_le first last then nat_le first bit && nat_le bit last else nat_le last bit && nat_le bit first

-- the bit is among those of a port
abbrev pub has_bit : Bits → PortBit → Bool
has_bit b at = at.decl == b.0 && is_within b.1 b.2 at.bit

-- the direction of the net that has a bit, if it is among these
abbrev pub role_by : ℕ → PortFound → Option PortRole
role_by bit found_ports.Absent = None
role_by bit (found_ports.Bits decl first last role) = if is_within first last bit then Some role else None

-- the direction of the net that has the bit
abbrev pub role_at : List Net → PortBit → Option PortRole
role_at ns at = role_by at.bit (found_bits at.decl (slice_get ns at.decl))

-- it is this direction
abbrev pub is_role : PortRole → Option PortRole → Bool
is_role wanted (Some role) = same_role wanted role
is_role wanted None = false

-- the mention is of the bit
abbrev pub names_bit : List Net → PortRole → Option of_code.Bits → PortBit → Bool
names_bit ns wanted (Some b) at = has_bit (bits_text b) at
names_bit ns wanted None at = is_role wanted (role_at ns at)

-- the mention changes the bit: input delays at the clock's are ignored
abbrev pub hits : List Net → Mention → PortBit → Bool
hits ns m at = names_bit ns (role_for m.change) m.bits at && not (is_input_delay m.change && is_clock m.clock at)

-- ---- what holds of mentions

-- bits of one number, or those of a whole port
abbrev pub IsPlace : List Net → PortRole → of_code.Bits → Type 0
IsPlace ns role b = (b.first == b.last) ≡ false → port_bits role ns b.decl ≡ Some (bits_text b)

-- numbers in their ranges, no clock but this one, and bits of the netlist
pub record Fits (ns : List Net) (source : Option PortBit) (m : Mention) : Type 0 where
  pub change : IsChange m.change
  pub clock : IfSome m.clock (λ b. source ≡ Some b)
  pub bits : IfSome m.bits (IsPlace ns (role_for m.change))

abbrev pub AllFit : List Net → Option PortBit → List Mention → Type 0
AllFit ns clock ms = All (Fits ns clock) ms

-- ---- what is kept while a text is read

pub record Kept : Type 0 where
  pub time : ℤ
  pub cap : ℤ
  pub clock : Option Clock
  pub said : List Mention

-- the state that it stands for
abbrev pub state_of : Nets → Kept → State
state_of nets k = record { time = k.time; cap = k.cap; clock = k.clock; ports = told (nets_of nets) k.said }

-- all mentions fit
abbrev pub IsKept : Nets → Kept → Type 0
IsKept nets k = AllFit (nets_of nets) (option_map bit_of k.clock) k.said
