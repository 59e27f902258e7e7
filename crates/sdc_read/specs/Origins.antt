-- Numbers by the mentions that set them: the place of a mention and 1 more, and 0 where none does.
use Rattle.std.specs.Prelude.{ℕ, zero, suc, Bool, ◌&&◌, ◌==◌, if◌then◌else◌, List, ℤ, pos, Option, Some, None}
use Rattle.std.specs.List.{slice_get}
use Rattle.sdc_forms.specs.declared.picked.Picked.{Picked}
use Rattle.sdc_read.specs.declared.change.Change.{Change}
use Rattle.sdc_read.specs.declared.change.Change.TheVariants as changes
use Rattle.sdc_read.specs.declared.mentions.Mention.{Mention}
use Rattle.sdc_read.specs.declared.origins.Origins.{Origins}
use Rattle.sdc_read.specs.declared.origins.SideOrigins.{SideOrigins}
use Rattle.sdc_read.specs.declared.ports.Sides.{Sides}
use Rattle.sdc_read.specs.declared.set_numbers.SetNumbers.{SetNumbers}

-- ---- what they stand for

abbrev pub number_in : Change → ℤ
number_in (changes.InputDelay p x) = x
number_in (changes.OutputDelay p x) = x
number_in (changes.Slew p x) = x
number_in (changes.Load x) = x

abbrev pub number_by : Option Mention → ℤ
number_by (Some m) = number_in m.change
number_by None = pos 0

abbrev pub number_at : List Mention → ℕ → Option ℤ
number_at ms zero = None
number_at ms (suc i) = Some (number_by (slice_get ms i))

abbrev pub sides_at : List Mention → SideOrigins → Sides
sides_at ms o = record {
  rise_min = number_at ms o.rise_min;
  rise_max = number_at ms o.rise_max;
  fall_min = number_at ms o.fall_min;
  fall_max = number_at ms o.fall_max;
}

abbrev pub numbers_at : List Mention → Origins → SetNumbers
numbers_at ms o = record {
  input = sides_at ms o.input;
  output = sides_at ms o.output;
  slew = sides_at ms o.slew;
  load = number_at ms o.load;
}

-- ---- as the code has them

abbrev pub or_number : ℕ → ℕ → ℕ
or_number a b = if a == 0 then b else a

abbrev pub or_side_origins : SideOrigins → SideOrigins → SideOrigins
or_side_origins a b = record {
  rise_min = or_number a.rise_min b.rise_min;
  rise_max = or_number a.rise_max b.rise_max;
  fall_min = or_number a.fall_min b.fall_min;
  fall_max = or_number a.fall_max b.fall_max;
}

abbrev pub or_origins : Origins → Origins → Origins
or_origins a b = record {
  input = or_side_origins a.input b.input;
  output = or_side_origins a.output b.output;
  slew = or_side_origins a.slew b.slew;
  load = or_number a.load b.load;
}

abbrev pub no_side_origins : SideOrigins
no_side_origins = record { rise_min = 0; rise_max = 0; fall_min = 0; fall_max = 0 }

abbrev pub no_origins : Origins
no_origins = record { input = no_side_origins; output = no_side_origins; slew = no_side_origins; load = 0 }

abbrev pub number_if : Bool → ℕ → ℕ
number_if picked n = if picked then n else 0

abbrev pub picked_origins : Picked → ℕ → SideOrigins
picked_origins p n = record {
  rise_min = number_if (p.rise && p.min) n;
  rise_max = number_if (p.rise && p.max) n;
  fall_min = number_if (p.fall && p.min) n;
  fall_max = number_if (p.fall && p.max) n;
}

-- what a mention of this number sets
abbrev pub origins_of : Change → ℕ → Origins
origins_of (changes.InputDelay p x) n = record no_origins { input = picked_origins p n }
origins_of (changes.OutputDelay p x) n = record no_origins { output = picked_origins p n }
origins_of (changes.Slew p x) n = record no_origins { slew = picked_origins p n }
origins_of (changes.Load x) n = record no_origins { load = n }

abbrev pub or_all : Option Origins → Option Origins → Option Origins
or_all None o = o
or_all (Some a) None = Some a
or_all (Some a) (Some b) = Some (or_origins a b)

abbrev pub put_origins : Option Origins → Change → ℕ → Origins
put_origins None c n = origins_of c n
put_origins (Some a) c n = or_origins a (origins_of c n)
