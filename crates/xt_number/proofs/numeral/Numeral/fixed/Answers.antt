use Rattle.std.proofs.Common.{◌≡◌, ap, ◌∙◌, arith}
use Rattle.std.specs.Prelude.{ℤ, ◌+ℤ◌}
use Rattle.std.proofs.lemmas.Int.{ints}
use mir.Val.{to_z, of_z}
use mir.Syntax.{w32, w64, w128}
use Rattle.xt_number.specs.Value.{exponent, clamped}
use Rattle.xt_number.specs.View.{view}
use Rattle.xt_number.proofs.Fixing.{fixed_digits, fixed_range, fixed_value}
use Rattle.xt_number.proofs.numeral.Numeral.fixed.Goals as goal

pub returns-in_default-clause-exact : goal.returns-in_default-clause-exact
returns-in_default-clause-exact c = fixed_digits (view c.args.self.now) c.args.scale c.requires.whole c.requires.fraction c.in_default.ensures

pub returns-in_default-rounded_size-clause-exact : goal.returns-in_default-rounded_size-clause-exact
returns-in_default-rounded_size-clause-exact c =
    let scale : to_z w128 (of_z w128 c.from.result) ≡ c.args.scale = omega (arith, ints) in
    let power = c.power-power.ensures ∙ ap (λ (z : ℤ). clamped (exponent (view c.args.self.now) +ℤ z)) scale in
    let plain : to_z w32 (of_z w32 c.power-power.result) ≡ c.power-power.result = omega (arith, ints) in
    fixed_range (view c.args.self.now) c.args.scale c.requires.whole c.requires.fraction c.in-Some.mantissa (to_z w32 (of_z w32 c.power-power.result))
    c.in-Some.ensures.0 c.in-Some.ensures.1 (plain ∙ power) c.in_default-rounded_size.ensures

pub returns-clause-exact : goal.returns-clause-exact
returns-clause-exact c =
    let scale : to_z w128 (of_z w128 c.from.result) ≡ c.args.scale = omega (arith, ints) in
    let power = c.power-power.ensures ∙ ap (λ (z : ℤ). clamped (exponent (view c.args.self.now) +ℤ z)) scale in
    let plain : to_z w32 (of_z w32 c.power-power.result) ≡ c.power-power.result = omega (arith, ints) in
    let same : to_z w64 (of_z w64 (to_z w128 (of_z w128 c.with_sign.result))) ≡ c.with_sign.result = omega (arith, ints, c.in-Some-rounded_size.ensures) in
    fixed_value (view c.args.self.now) c.args.scale c.requires.whole c.requires.fraction c.in-Some.mantissa (to_z w32 (of_z w32 c.power-power.result))
    c.in-Some-rounded_size.size _
    c.in-Some.ensures.0 c.in-Some.ensures.1 (plain ∙ power) c.in-Some-rounded_size.ensures.0 c.in-Some-rounded_size.ensures.1 (same ∙ c.with_sign.ensures.value)
