use Rattle.std.proofs.Common.{arith}
use Rattle.xt_number.proofs.Values.{far_up, large_stays}
use Rattle.xt_number.proofs.fixed.multiplied.Goals as goal
use Rattle.xt_number.proofs.fixed.multiplied.Goals.{then-mantissa-gt-MOST-via-then-mantissa-gt-MOST, then-mantissa-gt-MOST-via-else-mantissa-gt-MOST+then-places-gt12}

pub returns-then-mantissa-gt-MOST : goal.returns-then-mantissa-gt-MOST
returns-then-mantissa-gt-MOST c =
    elim c.then-mantissa-gt-MOST.branch [
      | then-mantissa-gt-MOST-via-then-mantissa-gt-MOST w ↦ large_stays c.args.mantissa c.args.places w.if-mantissa-gt-MOST.true
      | then-mantissa-gt-MOST-via-else-mantissa-gt-MOST+then-places-gt12 w ↦ far_up c.args.mantissa c.args.places (omega arith) (omega arith)
    ]
