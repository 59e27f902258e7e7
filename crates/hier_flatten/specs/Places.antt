-- How wide nets are, and the places of their bits, counted from the left bound of the range on.
use Rattle.std.specs.Prelude.{ℕ, ◌+◌, ◌-◌, nat_le, ◌==◌, Option, Some, None, if◌then◌else◌}

abbrev pub distance : ℕ → ℕ → ℕ
distance a b = if nat_le a b then b - a else a - b

-- how many bits a net has
abbrev pub width_of : Option (ℕ × ℕ) → ℕ
width_of None = 1
width_of (Some r) = distance r.0 r.1 + 1

-- the place of a bit in its net; the one bit of a net without a range is at place 0
abbrev pub place_in : Option (ℕ × ℕ) → ℕ → ℕ
place_in None bit = 0
place_in (Some r) bit = distance r.0 bit

-- the bit at a place, where the net has one there
abbrev pub bit_at : Option (ℕ × ℕ) → ℕ → Option ℕ
bit_at None place = if place == 0 then Some 0 else None
bit_at (Some r) place =
    if nat_le r.0 r.1
    then (if nat_le place (r.1 - r.0) then Some (r.0 + place) else None)
    else (if nat_le place (r.0 - r.1) then Some (r.0 - place) else None)
