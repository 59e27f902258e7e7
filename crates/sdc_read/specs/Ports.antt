-- The bits of ports with what constraints say of them.
use Rattle.std.specs.Prelude.{ℕ, Bool, ◌==◌, ◌&&◌, List, [], ◌∷◌, Option, Some, None, if◌then◌else◌}
use Rattle.std.specs.Prelude.{ℤ, pos, neg_ℤ, ◌≤ℤ◌, ◌^◌, IfSome}
use Rattle.std.specs.Option.{option_or}
use Rattle.sdc_read.specs.declared.ports.PortBit.{PortBit}
use Rattle.sdc_read.specs.declared.ports.Sides.{Sides}
use Rattle.sdc_read.specs.declared.ports.PortSides.{PortSides}
use Rattle.sdc_read.specs.declared.ports.PortSet.{PortSet}

-- the bits that commands named, in order of first naming, each with what was set for it
abbrev pub Ports : Type 0
Ports = List (PortBit × PortSides)

-- no number
abbrev pub no_sides : Sides
no_sides = record { rise_min = None; rise_max = None; fall_min = None; fall_max = None }

-- nothing is set
abbrev pub unset : PortSides
unset = record { input = no_sides; output = no_sides; slew = no_sides; load = pos 0 }

-- the same bit of the same port
abbrev pub same_bit : PortBit → PortBit → Bool
same_bit a b = a.decl == b.decl && a.bit == b.bit

-- what is set for a bit, if anything is
abbrev pub found_sides : PortBit → Ports → Option PortSides
found_sides b [] = None
found_sides b (e ∷ es) = if same_bit b e.0 then Some e.1 else found_sides b es

-- the ports once this is set for a bit, in the place of what was set for it: a bit keeps its place, a new one goes last
abbrev pub with_sides : PortBit → PortSides → Ports → Ports
with_sides b v [] = (b, v) ∷ []
with_sides b v (e ∷ es) = if same_bit b e.0 then (e.0, v) ∷ es else e ∷ with_sides b v es

-- ---- what is meant

-- a missing side of an edge takes the other side's number
abbrev pub filled : Sides → Sides
filled s = record {
  rise_min = option_or s.rise_min s.rise_max;
  rise_max = option_or s.rise_max s.rise_min;
  fall_min = option_or s.fall_min s.fall_max;
  fall_max = option_or s.fall_max s.fall_min;
}

-- a missing number is 0
abbrev pub or_zero : Sides → Sides
or_zero s = record {
  rise_min = option_or s.rise_min (Some (pos 0));
  rise_max = option_or s.rise_max (Some (pos 0));
  fall_min = option_or s.fall_min (Some (pos 0));
  fall_max = option_or s.fall_max (Some (pos 0));
}

-- what is meant by what was set for a bit: both sides of an input's edge or none, all four slews, and of an output the
-- sides as they are, since a side without a number is not checked
abbrev pub settled : PortBit × PortSides → PortSet
settled e = record {
  decl = e.0.decl;
  bit = e.0.bit;
  input = filled e.1.input;
  output = e.1.output;
  slew = or_zero (filled e.1.slew);
  load = e.1.load;
}

-- the port with this bit, if there is one
abbrev pub port_at : ℕ → ℕ → List PortSet → Option PortSet
port_at decl bit [] = None
port_at decl bit (p ∷ ps) = if decl == p.decl && bit == p.bit then Some p else port_at decl bit ps

-- ---- ranges

-- a number from -2^40 to 2^40, where there is one
abbrev pub IsTime : Option ℤ → Type 0
IsTime o = IfSome o (λ x. (neg_ℤ (pos (2 ^ 40)) ≤ℤ x) × (x ≤ℤ pos (2 ^ 40)))

-- a number from 0 to 2^40, where there is one
abbrev pub IsSize : Option ℤ → Type 0
IsSize o = IfSome o (λ x. (pos 0 ≤ℤ x) × (x ≤ℤ pos (2 ^ 40)))

abbrev pub AreTimes : Sides → Type 0
AreTimes s = IsTime s.rise_min × IsTime s.rise_max × IsTime s.fall_min × IsTime s.fall_max

abbrev pub AreSizes : Sides → Type 0
AreSizes s = IsSize s.rise_min × IsSize s.rise_max × IsSize s.fall_min × IsSize s.fall_max

-- delays are times; slews and loads are sizes
pub record AreInRange (p : PortSides) : Type 0 where
  pub input : AreTimes p.input
  pub output : AreTimes p.output
  pub slew : AreSizes p.slew
  pub load : (pos 0 ≤ℤ p.load) × (p.load ≤ℤ pos (2 ^ 40))

-- what is set for each bit is in its range
abbrev pub AllInRange : Ports → Type 0
AllInRange [] = Unit {0}
AllInRange (e ∷ es) = AreInRange e.1 × AllInRange es

-- the same of what is meant
pub record IsInRange (p : PortSet) : Type 0 where
  pub input : AreTimes p.input
  pub output : AreTimes p.output
  pub slew : AreSizes p.slew
  pub load : (pos 0 ≤ℤ p.load) × (p.load ≤ℤ pos (2 ^ 40))
