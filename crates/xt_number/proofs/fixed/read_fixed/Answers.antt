use Rattle.std.proofs.Common.{◌≡◌, None, Some, ap, ◌∙◌, arith}
use Rattle.std.specs.Prelude.{ℤ}
use Rattle.std.proofs.lemmas.Int.{ints}
use mir.Val.{to_z, of_z}
use mir.Syntax.{w32}
use Rattle.xt_number.specs.Value.{fixed_from}
use Rattle.xt_number.specs.View.{view}
use Rattle.xt_number.proofs.Fixing.{form_at, digits_at, range_at, value_at}
use Rattle.xt_number.proofs.fixed.read_fixed.Goals as goal

pub returns-in-None-clause-form : goal.returns-in-None-clause-form
returns-in-None-clause-form c = form_at c.args.text.now c.args.scale None c.in-None.ensures.exact

pub returns-in-None-clause-digits : goal.returns-in-None-clause-digits
returns-in-None-clause-digits c = digits_at c.args.text.now c.args.scale None c.in-None.ensures.exact

pub returns-in-None-clause-range : goal.returns-in-None-clause-range
returns-in-None-clause-range c = range_at c.args.text.now c.args.scale None c.in-None.ensures.exact

pub returns-in-None-clause-value : goal.returns-in-None-clause-value
returns-in-None-clause-value c = value_at c.args.text.now c.args.scale None c.in-None.ensures.exact

pub returns-in-Some-clause-digits : goal.returns-in-Some-clause-digits
returns-in-Some-clause-digits c =
    let scale : to_z w32 (of_z w32 c.args.scale) ≡ c.args.scale = omega (arith, ints) in
    rw (c.fixed.ensures.exact ∙ ap (λ (z : ℤ). fixed_from (Some (view c.in-Some.numeral)) z) scale) (digits_at c.args.text.now c.args.scale (Some (view c.in-Some.numeral)) c.in-Some.ensures.exact)

pub returns-in-Some-clause-range : goal.returns-in-Some-clause-range
returns-in-Some-clause-range c =
    let scale : to_z w32 (of_z w32 c.args.scale) ≡ c.args.scale = omega (arith, ints) in
    rw (c.fixed.ensures.exact ∙ ap (λ (z : ℤ). fixed_from (Some (view c.in-Some.numeral)) z) scale) (range_at c.args.text.now c.args.scale (Some (view c.in-Some.numeral)) c.in-Some.ensures.exact)

pub returns-in-Some-clause-value : goal.returns-in-Some-clause-value
returns-in-Some-clause-value c x =
    let scale : to_z w32 (of_z w32 c.args.scale) ≡ c.args.scale = omega (arith, ints) in
    rw (c.fixed.ensures.exact ∙ ap (λ (z : ℤ). fixed_from (Some (view c.in-Some.numeral)) z) scale) (value_at c.args.text.now c.args.scale (Some (view c.in-Some.numeral)) c.in-Some.ensures.exact x)
