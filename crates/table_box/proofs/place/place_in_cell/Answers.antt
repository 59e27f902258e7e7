-- The differences are the exact ones, since all numbers of an index are small.
use Rattle.std.proofs.Common.{◌+◌, arith, get_or, pos}
use Rattle.table_box.proofs.Places.{difference_back, number_between, same_span}
use Rattle.table_box.proofs.place.place_in_cell.Goals as goal

pub returns : goal.returns
returns c =
    let first = get_or c.args.index.now c.args.cell (pos 0) in
    let second = get_or c.args.index.now (c.args.cell + 1) (pos 0) in
    let a = c.requires.index.numbers c.args.cell (pos 0) (omega arith) in
    let b = c.requires.index.numbers (c.args.cell + 1) (pos 0) c.requires.cell in
    let x = number_between first c.args.x second c.requires.low c.requires.high a b in
    same_span _ _ _ _ _ _ _ _ (difference_back c.args.x first x a) (difference_back second c.args.x b x) (difference_back second first b a)
