-- The windows that constraints give the nets of input ports.
use Rattle.std.specs.Prelude.{ℕ, ◌==◌, ◌&&◌, Bool, true, false, ℤ, pos, Option, Some, None, unwrap_or, if◌then◌else◌}
use Rattle.std.specs.Int.{int_min, int_max}
use Rattle.xt_model.specs.declared.quad.Quad.{Quad}
use Rattle.xt_model.specs.declared.quad.Pair.{Pair}
use Rattle.xt_model.specs.Quads.{bottom}
use Rattle.verilog_net.specs.declared.netlist.PortRole.{PortRole}
use Rattle.verilog_net.specs.declared.netlist.PortRole.TheVariants as roles
use Rattle.sdc_read.specs.declared.constraints.Clock.{Clock}
use Rattle.sdc_read.specs.declared.constraints.Constraints.{Constraints}
use Rattle.sdc_read.specs.declared.ports.Sides.{Sides}
use Rattle.sdc_read.specs.declared.ports.PortSet.{PortSet}
use Rattle.sdc_read.specs.Ports.{port_at, no_sides}
use Rattle.verilog_net.specs.Bits.{Bit}

-- the lesser and the greater of two numbers, of which a missing one is the other
abbrev pub span_of : Option ℤ → Option ℤ → Option (ℤ × ℤ)
span_of None None = None
span_of (Some a) None = Some (a, a)
span_of None (Some b) = Some (b, b)
span_of (Some a) (Some b) = Some (int_min a b, int_max a b)

-- the slews of an edge are 0 where none is given
abbrev pub slews_of : Option ℤ → Option ℤ → ℤ × ℤ
slews_of a b = unwrap_or (span_of a b) (pos 0, pos 0)

-- the window with these times and slews; without times the edge is quiet
abbrev pub window_of : Option (ℤ × ℤ) → ℤ × ℤ → Quad
window_of None slews = bottom
window_of (Some times) slews = record { tlo = times.0; thi = times.1; slo = slews.0; shi = slews.1 }

-- the windows of an input with these times, for rise and fall, and these slews
abbrev pub windows_of : Option (ℤ × ℤ) → Option (ℤ × ℤ) → Sides → Pair
windows_of rise fall slew = record {
  rise = window_of rise (slews_of slew.rise_min slew.rise_max);
  fall = window_of fall (slews_of slew.fall_min slew.fall_max);
}

-- the clock of this bit, if it has one
abbrev pub clock_at : ℕ → ℕ → Option Clock → Option Clock
clock_at decl bit None = None
clock_at decl bit (Some clock) = if clock.decl == decl && clock.bit == bit then Some clock else None

-- the clock rises at 0 and falls at its fall, whatever delays its port has; another input arrives within its delays
abbrev pub input_windows : Option Clock → Sides → Sides → Pair
input_windows (Some clock) input slew =
    windows_of (Some (pos 0, pos 0)) (Some (clock.fall, clock.fall)) slew
input_windows None input slew =
    windows_of (span_of input.rise_min input.rise_max) (span_of input.fall_min input.fall_max) slew

abbrev pub set_windows : Option Clock → Option PortSet → Pair
set_windows clock None = input_windows clock no_sides no_sides
set_windows clock (Some set) = input_windows clock set.input set.slew

abbrev pub quiet_pair : Pair
quiet_pair = record { rise = bottom; fall = bottom }

abbrev pub given_by : Constraints → Bit → PortRole → Pair
given_by constraints b roles.Input =
    set_windows (clock_at b.decl b.bit constraints.clock) (port_at b.decl b.bit constraints.ports)
given_by constraints b _ = quiet_pair

-- what a net is given: only an input port's net is given windows
unfoldable pub given_of : Constraints → Bit → Pair
given_of constraints b = given_by constraints b b.role

-- a net is an input where an input port drives it
abbrev pub is_input_port : PortRole → Bool
is_input_port roles.Input = true
is_input_port _ = false
