-- The factors by which a coupling capacitor counts, in quarters.
use Rattle.std.specs.Prelude.{ℕ, ◌≤◌, nat_le, ◌==◌, Bool, ◌&&◌, Option, Some, None, if◌then◌else◌}
use Rattle.xt_model.specs.Limits.{most_factor}

-- where the aggressor switches the same way at the same time, where it stands still, and where it switches
-- the other way at the same time
pub record MillerNumbers : Type 0 where
  pub low : ℕ
  pub mid : ℕ
  pub high : ℕ

-- they rise, up to three whole capacitors
pub record IsMiller (m : MillerNumbers) : Type 0 where
  pub low : m.low ≤ m.mid
  pub mid : m.mid ≤ m.high
  pub high : m.high ≤ most_factor

-- the Miller numbers that three numbers are: they rise up to three whole capacitors
abbrev pub miller_of : ℕ × ℕ × ℕ → Option MillerNumbers
miller_of t =
    if nat_le t.0 t.1 && (nat_le t.1 t.2 && nat_le t.2 most_factor) then
    Some (record { low = t.0; mid = t.1; high = t.2 }) else None

-- the classical factors 0, 1 and 2
abbrev pub classical : MillerNumbers
classical = record { low = 0; mid = 4; high = 8 }

-- whether these are the classical factors
abbrev pub is_classical : MillerNumbers → Bool
is_classical m = m.low == 0 && (m.mid == 4 && m.high == 8)
