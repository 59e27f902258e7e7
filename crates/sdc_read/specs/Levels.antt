-- What is set for single bits, for whole ports and for all ports of a direction.
use Rattle.std.specs.Prelude.{ℕ, Bool, true, false, ◌==◌, if◌then◌else◌, List, [], ◌∷◌, Option, Some, None, unwrap_or}
use Rattle.std.specs.Map.{lookup}
use Rattle.std.specs.Option.{option_or}
use Rattle.indexmap.specs.IndexMap.{insert_entry}
use Rattle.verilog_net.specs.declared.netlist.Net.{Net}
use Rattle.verilog_net.specs.declared.netlist.PortRole.{PortRole}
use Rattle.verilog_net.specs.declared.netlist.PortRole.TheVariants.{Input, Output, Inner}
use Rattle.sdc_read.specs.declared.change.Bits as of_code
use Rattle.sdc_read.specs.declared.change.Change.{Change}
use Rattle.sdc_read.specs.declared.change.Change.TheVariants as changes
use Rattle.sdc_read.specs.declared.mentions.Mention.{Mention}
use Rattle.sdc_read.specs.declared.ports.PortBit.{PortBit}
use Rattle.sdc_read.specs.declared.ports.Sides.{Sides}
use Rattle.sdc_read.specs.declared.ports.PortSides.{PortSides}
use Rattle.sdc_read.specs.declared.set_numbers.SetNumbers.{SetNumbers}
use Rattle.sdc_read.specs.Ports.{no_sides, same_bit}
use Rattle.sdc_read.specs.Changes.{with_number, role_for, or_unset, is_clock}
use Rattle.sdc_read.specs.Mentions.{role_at, hits}

-- ---- numbers, where they are set

abbrev pub or_sides : Sides → Sides → Sides
or_sides a b = record {
  rise_min = option_or a.rise_min b.rise_min;
  rise_max = option_or a.rise_max b.rise_max;
  fall_min = option_or a.fall_min b.fall_min;
  fall_max = option_or a.fall_max b.fall_max;
}

abbrev pub or_numbers : SetNumbers → SetNumbers → SetNumbers
or_numbers a b = record {
  input = or_sides a.input b.input;
  output = or_sides a.output b.output;
  slew = or_sides a.slew b.slew;
  load = option_or a.load b.load;
}

abbrev pub no_numbers : SetNumbers
no_numbers = record { input = no_sides; output = no_sides; slew = no_sides; load = None }

-- the numbers that a command sets
abbrev pub numbers_of : Change → SetNumbers
numbers_of (changes.InputDelay p x) = record no_numbers { input = with_number p x no_sides }
numbers_of (changes.OutputDelay p x) = record no_numbers { output = with_number p x no_sides }
numbers_of (changes.Slew p x) = record no_numbers { slew = with_number p x no_sides }
numbers_of (changes.Load x) = record no_numbers { load = Some x }

-- what is set for a bit once these numbers are
abbrev pub over_numbers : SetNumbers → PortSides → PortSides
over_numbers n s = record {
  input = or_sides n.input s.input;
  output = or_sides n.output s.output;
  slew = or_sides n.slew s.slew;
  load = unwrap_or n.load s.load;
}

abbrev pub over_set : Option SetNumbers → Option PortSides → Option PortSides
over_set (Some n) s = Some (over_numbers n (or_unset s))
over_set None s = s

-- later numbers, and others where they have none
abbrev pub or_set : Option SetNumbers → Option SetNumbers → Option SetNumbers
or_set None o = o
or_set (Some n) None = Some n
or_set (Some n) (Some m) = Some (or_numbers n m)

-- later numbers, and an earlier command's where they have none
abbrev pub put : Option SetNumbers → Change → SetNumbers
put None c = numbers_of c
put (Some n) c = or_numbers n (numbers_of c)

abbrev pub put_if : Bool → Change → Option SetNumbers → Option SetNumbers
put_if true c o = Some (put o c)
put_if false c o = o

-- what mentions set for a bit
abbrev pub set_by : List Net → PortBit → List Mention → Option SetNumbers
set_by ns at [] = None
set_by ns at (m ∷ ms) = put_if (hits ns m at) m.change (set_by ns at ms)

-- ---- levels

-- what is set for bits, for whole ports by the numbers of their nets, and for all inputs and all outputs
pub record Levels : Type 0 where
  pub bits : List (PortBit × SetNumbers)
  pub ports : List (ℕ × SetNumbers)
  pub inputs : Option SetNumbers
  pub outputs : Option SetNumbers

-- mentions, and the levels that are made of them
pub record SaidLevels : Type 0 where
  pub said : List Mention
  pub levels : Levels

abbrev pub no_levels : Levels
no_levels = record { bits = []; ports = []; inputs = None; outputs = None }

abbrev pub for_role : Levels → PortRole → Option SetNumbers
for_role l Input = l.inputs
for_role l Output = l.outputs
for_role l Inner = None

abbrev pub for_port : Levels → ℕ → PortRole → Option SetNumbers
for_port l decl role = or_set (lookup (λ d. decl == d) l.ports) (for_role l role)

abbrev pub for_rest : Levels → ℕ → Option PortRole → Option SetNumbers
for_rest l decl (Some role) = for_port l decl role
for_rest l decl None = None

-- what is set for a bit: its own numbers, its port's where it has none, and those of all ports where its port has none
abbrev pub for_bit : List Net → Levels → PortBit → Option SetNumbers
for_bit ns l at = or_set (lookup (same_bit at) l.bits) (for_rest l at.decl (role_at ns at))

abbrev pub with_bit : List Net → PortBit → Change → Levels → Levels
with_bit ns at c l = record l { bits = insert_entry same_bit l.bits at (put (for_bit ns l at) c) }

abbrev pub with_port : ℕ → Change → Levels → Levels
with_port decl c l =
    record l { ports = insert_entry (λ a b. a == b) l.ports decl (put (for_port l decl (role_for c)) c) }

abbrev pub with_role : PortRole → SetNumbers → Levels → Levels
with_role Input n l = record l { inputs = Some n }
with_role Output n l = record l { outputs = Some n }
with_role Inner n l = l

abbrev pub with_all : Change → Levels → Levels
with_all c l = with_role (role_for c) (put (for_role l (role_for c)) c) l

abbrev pub with_place : List Net → Option of_code.Bits → Change → Levels → Levels
with_place ns (Some b) c l =
    if b.first == b.last then with_bit ns (record { decl = b.decl; bit = b.first }) c l else with_port b.decl c l
with_place ns None c l = with_all c l

-- the levels of mentions, the last of which comes first
abbrev pub levels_of : List Net → List Mention → Levels
levels_of ns [] = no_levels
levels_of ns (m ∷ ms) = with_place ns m.bits m.change (levels_of ns ms)

-- what is known to be set for a bit: the clock's is kept apart
abbrev pub known : List Net → Option PortBit → Option SetNumbers → Levels → PortBit → Option SetNumbers
known ns clock own l at = if is_clock clock at then own else for_bit ns l at
