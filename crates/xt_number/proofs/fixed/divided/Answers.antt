use Rattle.std.proofs.Common.{sym, arith}
use Rattle.xt_number.proofs.Values.{far_down}
use Rattle.xt_number.proofs.fixed.divided.Goals as goal

pub returns-then-places-gt30 : goal.returns-then-places-gt30
returns-then-places-gt30 c = sym (far_down c.args.mantissa c.args.places c.requires (omega arith))
