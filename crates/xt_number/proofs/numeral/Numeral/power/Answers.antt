use Rattle.std.proofs.Common.{◌≡◌, length, arith, ◌∙◌}
use Rattle.std.specs.Prelude.{pos, ◌+ℤ◌, ◌-ℤ◌}
use Rattle.std.specs.Str.Parse.{digits_value}
use Rattle.std.proofs.lemmas.Int.{ints, clamps}
use mir.Val.{to_z, of_z}
use mir.Syntax.{w32, w128}
use Rattle.xt_number.specs.Value.{signed, clamped}
use Rattle.xt_number.proofs.Values.{cut_harmless}
use Rattle.xt_number.proofs.numeral.Numeral.power.Goals as goal

pub returns : goal.returns
returns c =
    let cut = cut_harmless c.args.self.now.exponent_negative (digits_value 10 c.args.self.now.exponent.now) c.value_or_far.result (length c.args.self.now.fraction.now) c.args.by c.value_or_far.ensures.value (omega arith) c.requires.low c.requires.high in
    let left : c.clamp.result ≡ clamped ((signed c.args.self.now.exponent_negative c.value_or_far.result -ℤ pos (length c.args.self.now.fraction.now)) +ℤ c.args.by) = rw (← c.with_sign-exponent.ensures.value) (omega (arith, ints, clamps)) in
    let plain : to_z w32 (of_z w32 (to_z w128 (of_z w128 c.clamp.result))) ≡ c.clamp.result = omega (arith, ints) in
    plain ∙ (left ∙ cut)
