use Rattle.std.proofs.Common.{sym}
use Rattle.xt_number.specs.View.{view}
use Rattle.xt_number.proofs.Powers.{place_in_fraction, place_in_whole, no_place_in_whole, no_place}
use Rattle.xt_number.proofs.numeral.Numeral.place.Goals as goal

pub returns-then-are_zeros : goal.returns-then-are_zeros
returns-then-are_zeros c = place_in_fraction (view c.args.self.now) c.place_of_one.result (sym c.if-are_zeros.ensures) c.place_of_one.ensures

pub returns-in_err-place_of_one : goal.returns-in_err-place_of_one
returns-in_err-place_of_one c =
    rw c.from_residual.ensures (no_place_in_whole (view c.args.self.now) (sym c.if-are_zeros-2.ensures) c.in_err-place_of_one.ensures)

pub returns-in_ok-place_of_one : goal.returns-in_ok-place_of_one
returns-in_ok-place_of_one c =
    place_in_whole (view c.args.self.now) (sym c.if-are_zeros-2.ensures) c.in_ok-place_of_one.field-0 c.in_ok-place_of_one.ensures.0

pub returns-else-are_zeros-2 : goal.returns-else-are_zeros-2
returns-else-are_zeros-2 c =
    no_place (view c.args.self.now) c.requires.whole c.requires.fraction (sym c.if-are_zeros.ensures) (sym c.if-are_zeros-2.ensures)
