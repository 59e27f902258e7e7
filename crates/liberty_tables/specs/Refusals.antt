-- Refusals in the order in which they are met.
use Rattle.std.specs.Prelude.{ℕ, nat_le, Option, Some, None, if◌then◌else◌}
use Rattle.text_forms.specs.Refusals.{Meant, refuse}
use Rattle.xt_model.specs.declared.code.Code.{Code}

-- the lesser of two lines
abbrev pub lesser : ℕ → ℕ → ℕ
lesser line other = if nat_le line other then line else other

-- of two faults of one code, where they stand, the earlier
abbrev pub earlier : Option ℕ → Option ℕ → Option ℕ
earlier None other = other
earlier (Some line) None = Some line
earlier (Some line) (Some other) = Some (lesser line other)

-- a fault of a code comes before what else is meant
abbrev pub unless_at : {A : Type 0} → Code → Option ℕ → Meant A → Meant A
unless_at code None meant = meant
unless_at code (Some line) meant = refuse line code
