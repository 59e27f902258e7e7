use Rattle.std.proofs.Common.{ℕ, ◌<◌, get_or}
use Rattle.xt_model.specs.declared.net.Coupling.{Coupling}
use Rattle.chaos_core.specs.Alike.{HasSameAnswers}
use Rattle.chaos_core.proofs.alike.has_answers_alike.Given as goal

abbrev pub invariant-loop-coupling : goal.invariant-loop-coupling
invariant-loop-coupling g l = (i : ℕ) (k : Coupling) → i < l.coupling-index → HasSameAnswers l.period (g.T.TwoTimes.earlier l.two) (g.T.TwoTimes.later l.two) l.net.0 (get_or l.coupling-items i k).to.0
