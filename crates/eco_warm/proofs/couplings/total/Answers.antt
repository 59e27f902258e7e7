use Rattle.std.proofs.Common.{arith, pos}
use Rattle.std.proofs.lemmas.Int.{ints}
use Rattle.std.proofs.lemmas.List.{at_drop_more}
use Rattle.eco_warm.specs.Edits.{total}
use Rattle.eco_warm.proofs.couplings.total.Goals as goal

pub loop-coef-preserved : goal.loop-coef-preserved
loop-coef-preserved c =
    let coef = c.requires.coefs c.loop-coef.coef-index (pos 0) c.loop-coef-test.true in
    let most = coef.most in
    let least = coef.least in record {
      rest = let step = at_drop_more total c.args.coefs.now c.loop-coef.coef-index (pos 0) c.loop-coef-test.true in omega (arith, ints);
      low = omega (arith, ints);
      high = omega (arith, ints);
    }
