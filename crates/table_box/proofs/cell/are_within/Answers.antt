-- Where the numbers rise, all lie between the first and the last.
use Rattle.std.proofs.Common.{arith, refl, to_z-of_z}
use Rattle.std.proofs.lemmas.Int.{ints}
use Rattle.table_box.proofs.Small.{rising_at_most}
use Rattle.table_box.proofs.cell.are_within.Goals as goal

pub returns-then-rising : goal.returns-then-rising
returns-then-rising c t =
    let e = c.lie_within.ensures t in
    let most = to_z-of_z c.ranges.most in let first = to_z-of_z c.ranges.first_first in let last = to_z-of_z c.ranges.second_second in
    rising_at_most c.args.most c.args.first_first c.args.first_second c.args.second_first c.args.second_second (c.requires.rising c.if-rising.true)
    (omega (arith, ints, e.0, most, first)) (omega (arith, ints, e.1, most, last))

pub returns-then-are_at_most : goal.returns-then-are_at_most
returns-then-are_at_most c t =
    let one = c.if-are_at_most.ensures refl in let two = c.are_at_most-then-are_at_most.ensures t in
    let most = to_z-of_z c.ranges.most in
    record {
      first = rw (most, to_z-of_z c.ranges.first_first) at one.0;
      second = rw (most, to_z-of_z c.ranges.first_second) at one.1;
      third = rw (most, to_z-of_z c.ranges.second_first) at two.0;
      fourth = rw (most, to_z-of_z c.ranges.second_second) at two.1;
    }
