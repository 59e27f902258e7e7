-- The ends of an index bring a number within the size of a table's numbers.
use Rattle.std.proofs.Common.{◌-◌, sym, arith, get_or, length, pos, subst}
use Rattle.xt_model.specs.Tables.{IsTableNumber}
use Rattle.table_box.proofs.Axis.{first_last}
use Rattle.table_box.proofs.Places.{within_back, ends_number}
use Rattle.table_box.proofs.place.brought_within.Goals as goal

pub returns-clause-value : goal.returns-clause-value
returns-clause-value c =
    let xs = c.args.index.now in let some = c.requires.some in
    within_back (get_or xs 0 (pos 0)) (get_or xs (length xs - 1) (pos 0)) c.args.x c.min.result c.max.result (first_last xs c.requires)
    (c.requires.numbers 0 (pos 0) some) (c.requires.numbers (length xs - 1) (pos 0) (omega arith)) c.ranges.x c.min.ensures.value c.max.ensures.value

pub returns-clause-number : goal.returns-clause-number
returns-clause-number c =
    let xs = c.args.index.now in let some = c.requires.some in
    subst IsTableNumber (sym (returns-clause-value c))
    (ends_number (get_or xs 0 (pos 0)) (get_or xs (length xs - 1) (pos 0)) c.args.x (first_last xs c.requires)
    (c.requires.numbers 0 (pos 0) some) (c.requires.numbers (length xs - 1) (pos 0) (omega arith)))
