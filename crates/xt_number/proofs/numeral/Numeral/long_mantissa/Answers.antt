use Rattle.std.proofs.Common.{◌≡◌, ℕ, ◌<◌, ◌≤◌, ◌^◌, sym, ap, ◌∙◌, subst}
use Rattle.std.specs.Prelude.{MatchOption}
use Rattle.std.specs.Str.Parse.{digits_value, digits_value_after}
use Rattle.xt_number.proofs.Values.{front_large, after_append}
use Rattle.xt_number.proofs.numeral.Numeral.long_mantissa.Goals as goal

pub returns-in_err-whole : goal.returns-in_err-whole
returns-in_err-whole c =
    rw c.from_residual.ensures (front_large (10 ^ 30) c.args.self.now.whole.now c.args.self.now.fraction.now c.in_err-whole.ensures)

pub returns : goal.returns
returns c =
    let P : ℕ → Type 0 = λ v. MatchOption c.value_below-2.result (10 ^ 30 ≤ v) (λ m. (m ≡ v) × (m < 10 ^ 30)) in
    let whole : c.in_ok-whole.whole ≡ digits_value 10 c.args.self.now.whole.now = c.in_ok-whole.ensures.0 in
    let joined = ap (λ (n : ℕ). digits_value_after 10 n c.args.self.now.fraction.now) whole ∙ sym (after_append 0 c.args.self.now.whole.now c.args.self.now.fraction.now) in
    subst P joined c.value_below-2.ensures
