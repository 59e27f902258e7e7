use Rattle.std.proofs.Common.{◌≡◌, refl, ℤ, ◌-ℤ◌, w64, SFits, to_z, of_z, to_z-of_z, arith}
use Rattle.std.specs.Int.{w128}
use Rattle.std.proofs.lemmas.Int.{ints}
use Rattle.glitch_noise.proofs.changes.is_whole.Goals as goal

-- a number of 64 bits, and the difference of two, as 128 bits hold them
wide : (x r : ℤ) → SFits w64 x → r ≡ to_z w64 (of_z w64 x) → to_z w128 (of_z w128 r) ≡ x
wide x r fits is = let same = to_z-of_z fits in omega (arith, ints, same, is)

apart : (x y a b : ℤ) → SFits w64 x → SFits w64 y → a ≡ x → b ≡ y → to_z w128 (of_z w128 (a -ℤ b)) ≡ x -ℤ y
apart x y a b x_fits y_fits is_a is_b = let e = to_z-of_z x_fits in let f = to_z-of_z y_fits in omega (arith, ints, e, f, is_a, is_b)

pub returns : goal.returns
returns c =
    let period = wide c.args.period c.from.result c.ranges.period c.from.ensures in
    let end = wide c.args.end c.from-2.result c.ranges.end c.from-2.ensures in
    let from = wide c.args.from c.from-3.result c.ranges.from c.from-3.ensures in
    rw (period, apart c.args.end c.args.from _ _ c.ranges.end c.ranges.from end from) refl
