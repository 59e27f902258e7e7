-- Two numbers, a least and a greatest one, and the room that they take.
use Rattle.std.specs.Prelude.{◌^◌, ℤ, pos, ◌≤ℤ◌}

-- sums of capacitances, in quarters of an aF
pub record IsRangeOfCaps (range : ℤ × ℤ) : Type 0 where
  pub least_natural : pos 0 ≤ℤ range.0
  pub least_small : range.0 ≤ℤ pos (2 ^ 50)
  pub greatest_natural : pos 0 ≤ℤ range.1
  pub greatest_small : range.1 ≤ℤ pos (2 ^ 50)

-- sums of a base and coefficients, in quarters of a milliohm times an attofarad
pub record IsRangeOfProducts (range : ℤ × ℤ) : Type 0 where
  pub least_natural : pos 0 ≤ℤ range.0
  pub greatest_natural : pos 0 ≤ℤ range.1
  pub greatest_small : range.1 ≤ℤ pos (2 ^ 126)

-- delays of a wire, in fs
pub record IsRangeOfDelays (range : ℤ × ℤ) : Type 0 where
  pub least_natural : pos 0 ≤ℤ range.0
  pub greatest_natural : pos 0 ≤ℤ range.1
  pub greatest_small : range.1 ≤ℤ pos (2 ^ 105)
