use Rattle.std.proofs.Common.{length, arith}
use Rattle.net_eval.proofs.Looks.{most_all, past_none}
use Rattle.net_eval.proofs.reads.longest.Goals as goal

pub loop-list-init : goal.loop-list-init
loop-list-init c = record {
  most = λ n lt. absurd (omega (arith, lt));
  one = (length c.args.lists.now, past_none c.args.lists.now (length c.args.lists.now) (omega arith));
}

pub returns-clause-most : goal.returns-clause-most
returns-clause-most c = most_all _ _ _ c.loop-list-test.false c.loop-list.invariant.most

pub returns-clause-one : goal.returns-clause-one
returns-clause-one c = c.loop-list.invariant.one
