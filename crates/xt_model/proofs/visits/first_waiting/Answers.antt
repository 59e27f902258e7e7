use Rattle.std.proofs.Common.{arith}
use Rattle.xt_model.proofs.LevelTurns.{known_more, known_all, waits_at}
use Rattle.xt_model.proofs.visits.first_waiting.Goals as goal

pub loop-i-preserved : goal.loop-i-preserved
loop-i-preserved c = known_more _ _ c.loop-i.i _ c.loop-i-test.true c.loop-i.invariant c.if-levels-arcs-eq0.false

pub returns-then-levels-arcs-eq0-clause-waits : goal.returns-then-levels-arcs-eq0-clause-waits
returns-then-levels-arcs-eq0-clause-waits c = λ h. waits_at _ _ c.loop-i.i _ h c.if-levels-arcs-eq0.true

pub returns : goal.returns
returns c = record {
  within = omega arith;
  before = known_all _ _ c.loop-i.i c.loop-i-test.false c.loop-i.invariant;
  waits = λ h. absurd (omega arith);
}
