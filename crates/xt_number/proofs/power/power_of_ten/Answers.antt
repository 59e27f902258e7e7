use Rattle.std.proofs.Common.{None, Some}
use Rattle.xt_number.specs.View.{view}
use Rattle.xt_number.proofs.Units.{power_at}
use Rattle.xt_number.proofs.power.power_of_ten.Goals as goal

pub returns-in-None-clause-power : goal.returns-in-None-clause-power
returns-in-None-clause-power c = power_at c.args.text.now None c.in-None.ensures.exact

pub returns-in-Some-clause-power : goal.returns-in-Some-clause-power
returns-in-Some-clause-power c k = rw c.unit_power.ensures.exact (power_at c.args.text.now (Some (view c.in-Some.numeral)) c.in-Some.ensures.exact k)
