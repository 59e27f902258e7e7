-- Where the bits of a net stand among all bits.
use Rattle.std.specs.Prelude.{◌≡◌, ℕ, ◌+◌, ◌-◌, ◌<◌, nat_le, ◌==◌, ◌&&◌, List, length, take, Option, Some, None}
use Rattle.std.specs.Prelude.{slice_index, if◌then◌else◌}
use Rattle.verilog_net.specs.Nets.{Nets}
use Rattle.verilog_net.specs.Bits.{bits}

-- how many bits a net with this range has
abbrev pub width : Option (ℕ × ℕ) → ℕ
width None = 1
width (Some range) = if nat_le range.0 range.1 then range.1 - range.0 + 1 else range.0 - range.1 + 1

-- where a bit stands among those of its net
abbrev pub offset : Option (ℕ × ℕ) → ℕ → Option ℕ
offset None bit = if bit == 0 then Some 0 else None
offset (Some range) bit =
    if nat_le range.0 bit && nat_le bit range.1 then Some (bit - range.0)
    else if nat_le range.1 bit && nat_le bit range.0 then Some (range.0 - bit)
    else None

-- the number of the first bit of each net
pub record AreStarts (nets : Nets) (starts : List ℕ) : Type 0 where
  pub count : length starts ≡ length nets
  pub each : (k : ℕ) → k < length nets → slice_index starts k ≡ length (bits (take k nets))
