use Rattle.std.proofs.Common.{◌≡◌, ◌<◌, true, get_or, refl, sym, ap, ◌∙◌, arith}
use Rattle.std.specs.List.{list_all}
use Rattle.std.specs.Char.{is_ascii_digit, digit_value}
use Rattle.std.proofs.lemmas.Bool.Decides.{nat_tests}
use Rattle.std.proofs.lemmas.Int.Digits.{digits_value_more}
use Rattle.std.proofs.lemmas.List.{take_all}
use Rattle.std.proofs.lemmas.List.Folds.{list_all_more}
use Rattle.linked_text.proofs.ShortNumbers.{few_digits, list_all_fails, more_digits}
use Rattle.linked_text.proofs.field.short_value.Goals as goal

pub returns-then-not-is_ascii_digit : goal.returns-then-not-is_ascii_digit
returns-then-not-is_ascii_digit c =
    rw (list_all_fails is_ascii_digit c.args.field.now c.loop-digit.digit-index 0 c.loop-digit-test.true (sym c.if-not-is_ascii_digit.ensures.value)) refl

pub overflow_mul-value : goal.overflow_mul-value
overflow_mul-value c =
    let few = few_digits c.loop-digit.digit-index c.loop-digit.value (omega (arith, c.loop-digit-test.true, c.requires)) c.loop-digit.invariant.below in
    omega (arith, few)

pub overflow_add-value : goal.overflow_add-value
overflow_add-value c =
    let few = few_digits c.loop-digit.digit-index c.loop-digit.value (omega (arith, c.loop-digit-test.true, c.requires)) c.loop-digit.invariant.below in
    omega (arith, few)

pub loop-digit-preserved : goal.loop-digit-preserved
loop-digit-preserved c =
    let ds = c.args.field.now in
    let i = c.loop-digit.digit-index in
    let digit : digit_value (get_or ds i 0) ≡ c.from.result = grind (arith, nat_tests) in
    let small : c.from.result < 10 = grind (arith, nat_tests) in record {
      value = omega (arith, digits_value_more 10 ds i c.loop-digit-test.true, c.loop-digit.invariant.value, digit);
      digits = list_all_more is_ascii_digit ds i 0 c.loop-digit-test.true ∙ rw (c.loop-digit.invariant.digits, sym c.if-not-is_ascii_digit.ensures.value) refl;
      below = let more = more_digits i c.loop-digit.value c.from.result c.loop-digit.invariant.below small in omega (arith, more);
    }

pub returns : goal.returns
returns c =
    let ds = c.args.field.now in
    let all = take_all c.loop-digit.digit-index ds c.loop-digit-test.false in
    let digits : list_all is_ascii_digit ds ≡ true = sym (ap (list_all is_ascii_digit) all) ∙ c.loop-digit.invariant.digits in
    rw (digits, c.loop-digit.invariant.value, all) refl
