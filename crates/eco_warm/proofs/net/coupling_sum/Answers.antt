use Rattle.std.proofs.Common.{arith, pos}
use Rattle.std.proofs.lemmas.Int.{ints}
use Rattle.std.proofs.lemmas.List.{at_drop_more}
use Rattle.xt_model.specs.Sound.{coupling_sum}
use Rattle.eco_warm.proofs.net.coupling_sum.Goals as goal

pub loop-coupling-preserved : goal.loop-coupling-preserved
loop-coupling-preserved c = let h = c.from-sum.ensures in record {
  rest = let step = at_drop_more coupling_sum c.args.couplings.now c.loop-coupling.coupling-index (record { to = record { 0 = 0 }; cap = pos 0 }) c.loop-coupling-test.true in omega (arith, ints);
  low = omega (arith, ints);
  high = omega (arith, ints);
}
