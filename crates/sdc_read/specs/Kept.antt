-- How mentions are kept: what is said, and the places of which it is said.
use Rattle.std.specs.Prelude.{◌≡◌, ℕ, List, pos, Option, Some, None, IsSome}
use Rattle.std.specs.List.{slice_get}
use Rattle.sdc_read.specs.declared.change.Bits as of_code
use Rattle.sdc_read.specs.declared.change.Change.TheVariants as changes
use Rattle.sdc_read.specs.declared.mentions.Mention.{Mention}
use Rattle.sdc_read.specs.declared.mentions.Place.{Place}
use Rattle.sdc_read.specs.declared.mentions.Said.{Said}

abbrev pub mention_by : Option Said → Option of_code.Bits → Mention
mention_by (Some s) bits = record { change = s.change; clock = s.clock; bits = bits }
mention_by None bits = record { change = changes.Load (pos 0); clock = None; bits = bits }

-- the mention of a place
abbrev pub mention_of : List Said → Place → Mention
mention_of said p = mention_by (slice_get said p.said) p.bits

-- what is said of a place is there
abbrev pub IsThere : List Said → Place → Type 0
IsThere said p = IsSome (slice_get said p.said)

-- what was said is still there
abbrev pub AreKept : List Said → List Said → Type 0
AreKept old new = (i : ℕ) (s : Said) → slice_get old i ≡ Some s → slice_get new i ≡ Some s
