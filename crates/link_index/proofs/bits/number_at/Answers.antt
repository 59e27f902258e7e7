use Rattle.std.proofs.Common.{◌<◌, ◌≤◌, arith}
use Rattle.std.proofs.lemmas.Bool.{le-leb, lt-leb}
use Rattle.link_index.proofs.NameLaws.{rising_number, falling_number}
use Rattle.link_index.proofs.bits.number_at.Goals as goal

pub returns-then-left-right : goal.returns-then-left-right
returns-then-left-right c =
    let up : c.args.left ≤ c.args.right = omega arith in
    rising_number c.args.left c.args.right c.args.place up (rw (le-leb c.args.left c.args.right up) at c.requires)

pub returns-else-left-right : goal.returns-else-left-right
returns-else-left-right c =
    let down : c.args.right < c.args.left = omega arith in
    falling_number c.args.left c.args.right c.args.place down (rw (lt-leb c.args.left c.args.right down) at c.requires)
