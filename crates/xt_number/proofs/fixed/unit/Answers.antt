use Rattle.std.proofs.Common.{arith}
use Rattle.xt_number.proofs.Values.{ten_within}
use Rattle.xt_number.proofs.fixed.unit.Goals as goal

pub pow-requires : goal.pow-requires
pow-requires c = omega (arith, ten_within c.args.places 30 c.requires)

pub returns-clause-low : goal.returns-clause-low
returns-clause-low c = omega (arith, ten_within c.args.places 30 c.requires)

pub returns-clause-high : goal.returns-clause-high
returns-clause-high c = omega (arith, ten_within c.args.places 30 c.requires)
