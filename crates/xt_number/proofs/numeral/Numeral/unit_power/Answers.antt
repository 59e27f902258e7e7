use Rattle.std.proofs.Common.{◌≡◌, ap, ◌∙◌, arith}
use Rattle.std.specs.Prelude.{ℤ, pos, ◌+ℤ◌}
use Rattle.std.proofs.lemmas.Int.{ints}
use mir.Val.{to_z, of_z}
use mir.Syntax.{w32, w128}
use Rattle.xt_number.specs.Value.{exponent, clamped}
use Rattle.xt_number.specs.View.{view}
use Rattle.xt_number.proofs.Units.{other_has_none, near_power, far_power}
use Rattle.xt_number.proofs.numeral.Numeral.unit_power.Goals as goal

pub returns-in_err-place-clause-exact : goal.returns-in_err-place-clause-exact
returns-in_err-place-clause-exact c = c.from_residual.ensures ∙ other_has_none (view c.args.self.now) c.in_err-place.ensures

pub returns-then-unsigned_abs-le-GREATEST_POWER-clause-exact : goal.returns-then-unsigned_abs-le-GREATEST_POWER-clause-exact
returns-then-unsigned_abs-le-GREATEST_POWER-clause-exact c =
    let place : to_z w128 c.in_ok-place.place ≡ pos c.in_ok-place.place = omega (arith, ints) in
    let power = c.power-power.ensures ∙ ap (λ (z : ℤ). clamped (exponent (view c.args.self.now) +ℤ z)) place in
    let plain : to_z w32 (of_z w32 c.power-power.result) ≡ c.power-power.result = omega (arith, ints) in
    near_power (view c.args.self.now) c.in_ok-place.place (to_z w32 (of_z w32 c.power-power.result)) c.in_ok-place.ensures (plain ∙ power) c.if-self.false
    (omega (arith, ints), omega (arith, ints))

pub returns-else-unsigned_abs-le-GREATEST_POWER-clause-exact : goal.returns-else-unsigned_abs-le-GREATEST_POWER-clause-exact
returns-else-unsigned_abs-le-GREATEST_POWER-clause-exact c =
    let place : to_z w128 c.in_ok-place.place ≡ pos c.in_ok-place.place = omega (arith, ints) in
    let power = c.power-power.ensures ∙ ap (λ (z : ℤ). clamped (exponent (view c.args.self.now) +ℤ z)) place in
    far_power (view c.args.self.now) c.in_ok-place.place c.power-power.result c.in_ok-place.ensures power
    (λ range. omega (arith, ints, range.0, range.1))
