use Rattle.std.proofs.Common.{◌+◌, ◌*◌, arith, drop, get_or}
use Rattle.std.specs.Str.Parse.{digits_value_after}
use Rattle.xt_number.proofs.Values.{after_ge, digit_off, digits_at_index, value_turn}
use Rattle.xt_number.proofs.numeral.short_below.Goals as goal

pub overflow_sub-digit : goal.overflow_sub-digit
overflow_sub-digit c = omega (arith, digit_off (get_or c.args.digits.now c.loop-digit.digit-index 0) (digits_at_index c.args.digits.now c.loop-digit.digit-index c.requires.digits c.loop-digit-test.true))

pub returns-then-value-ge-SHORT : goal.returns-then-value-ge-SHORT
returns-then-value-ge-SHORT c =
    let so_far = value_turn c.loop-digit.value (c.loop-digit.value * 10 + c.from.result) (digits_value_after 10 c.args.start c.args.digits.now) c.args.digits.now c.loop-digit.digit-index c.requires.digits c.loop-digit-test.true (omega arith) c.loop-digit.invariant.so_far in
    omega (arith, so_far, after_ge (c.loop-digit.value * 10 + c.from.result) (drop (c.loop-digit.digit-index + 1) c.args.digits.now))

pub loop-digit-preserved : goal.loop-digit-preserved
loop-digit-preserved c = record {
  so_far = value_turn c.loop-digit.value (c.loop-digit.value * 10 + c.from.result) (digits_value_after 10 c.args.start c.args.digits.now) c.args.digits.now c.loop-digit.digit-index c.requires.digits c.loop-digit-test.true (omega arith) c.loop-digit.invariant.so_far;
  below = omega arith;
}
