-- The ranges of the quantities of a text, and of the powers of ten by which they are counted.
use Rattle.std.specs.Prelude.{◌^◌, ℤ, pos, neg_ℤ, ◌≤ℤ◌}
use Rattle.xt_model.specs.Sound.{IsBetween}

-- a capacitance or a resistance is 0 to 2^40, in aF or in milliohms
abbrev pub IsQuantity : ℤ → Type 0
IsQuantity x = IsBetween (pos 0) (pos (2 ^ 40)) x

-- a scale is a power of ten with an exponent of at most 12 in size
abbrev pub IsScale : ℤ → Type 0
IsScale k = (neg_ℤ (pos 12) ≤ℤ k) × (k ≤ℤ pos 12)
