use Rattle.std.proofs.Common.{◌≡◌, ◌<◌, ◌^◌, drop}
use Rattle.std.specs.Str.Parse.{digits_value_after}
use Rattle.xt_number.proofs.numeral.short_below.Given as goal

abbrev pub invariant-loop-digit : goal.invariant-loop-digit
invariant-loop-digit l = record {
  so_far : digits_value_after 10 l.value (drop l.digit-index l.digits) ≡ digits_value_after 10 l.start l.digits;
  below : l.value < 10 ^ 18;
}
