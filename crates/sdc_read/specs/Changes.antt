-- What commands change for the bits of ports.
use Rattle.std.specs.Prelude.{ℕ, zero, suc, ◌+◌, ◌-◌, nat_le, Bool, true, false, ◌&&◌, if◌then◌else◌}
use Rattle.std.specs.Prelude.{ℤ, Option, Some, None}
use Rattle.verilog_net.specs.declared.netlist.PortRole.{PortRole}
use Rattle.verilog_net.specs.declared.netlist.PortRole.TheVariants.{Input, Output}
use Rattle.sdc_forms.specs.declared.picked.Picked.{Picked}
use Rattle.sdc_read.specs.declared.change.Change.{Change}
use Rattle.sdc_read.specs.declared.change.Change.TheVariants as changes
use Rattle.sdc_read.specs.declared.ports.PortBit.{PortBit}
use Rattle.sdc_read.specs.declared.ports.Sides.{Sides}
use Rattle.sdc_read.specs.declared.ports.PortSides.{PortSides}
use Rattle.sdc_read.specs.Ports.{Ports, unset, same_bit, found_sides, with_sides, IsTime, IsSize}

-- the number in the place of another one, where it is picked
abbrev pub chosen : Bool → ℤ → Option ℤ → Option ℤ
chosen picked x old = if picked then Some x else old

-- the number for the picked edges and sides, in the place of what was there
abbrev pub with_number : Picked → ℤ → Sides → Sides
with_number p x s = record {
  rise_min = chosen (p.rise && p.min) x s.rise_min;
  rise_max = chosen (p.rise && p.max) x s.rise_max;
  fall_min = chosen (p.fall && p.min) x s.fall_min;
  fall_max = chosen (p.fall && p.max) x s.fall_max;
}

-- what is set for a bit once a command changed it
abbrev pub changed : Change → PortSides → PortSides
changed (changes.InputDelay p x) s = record s { input = with_number p x s.input }
changed (changes.OutputDelay p x) s = record s { output = with_number p x s.output }
changed (changes.Slew p x) s = record s { slew = with_number p x s.slew }
changed (changes.Load x) s = record s { load = x }

-- delays and slews of inputs, required times and loads of outputs
abbrev pub role_for : Change → PortRole
role_for (changes.InputDelay p x) = Input
role_for (changes.OutputDelay p x) = Output
role_for (changes.Slew p x) = Input
role_for (changes.Load x) = Output

abbrev pub is_input_delay : Change → Bool
is_input_delay (changes.InputDelay p x) = true
is_input_delay _ = false

-- the bit is that of the clock
abbrev pub is_clock : Option PortBit → PortBit → Bool
is_clock (Some clock) at = same_bit clock at
is_clock None at = false

abbrev pub or_unset : Option PortSides → PortSides
or_unset (Some s) = s
or_unset None = unset

-- one bit is changed; input delays at the clock's bit are ignored
abbrev pub change_bit : Option PortBit → Change → PortBit → Ports → Ports
change_bit clock c at ps =
    if is_input_delay c && is_clock clock at then ps
    else with_sides at (changed c (or_unset (found_sides at ps))) ps

-- each number below one in turn
abbrev pub over_first : {A : Type 0} → (ℕ → A → A) → ℕ → A → A
over_first f zero s = s
over_first f (suc n) s = f n (over_first f n s)

-- the bits from one to another, in this order
abbrev pub bit_at : ℕ → ℕ → ℕ → ℕ
bit_at first last i = if nat_le first last then first + i else first - i

abbrev pub bit_count : ℕ → ℕ → ℕ
bit_count first last = if nat_le first last then last - first + 1 else first - last + 1

-- bits of a port: the number of its net, and its bits from one to another
abbrev pub Bits : Type 0
Bits = ℕ × ℕ × ℕ

-- each bit of a port is changed
unfoldable pub change_bits : Option PortBit → Change → Bits → Ports → Ports
change_bits clock c b ps =
    over_first (λ i. change_bit clock c (record { decl = b.0; bit = bit_at b.1 b.2 i })) (bit_count b.1 b.2) ps

-- delays are times; slews and loads are sizes
abbrev pub IsChange : Change → Type 0
IsChange (changes.InputDelay p x) = IsTime (Some x)
IsChange (changes.OutputDelay p x) = IsTime (Some x)
IsChange (changes.Slew p x) = IsSize (Some x)
IsChange (changes.Load x) = IsSize (Some x)
