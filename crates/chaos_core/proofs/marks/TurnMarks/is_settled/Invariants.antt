use Rattle.std.proofs.Common.{◌<◌, get_or, ℕ}
use Rattle.xt_model.specs.declared.net.TimingArc.{TimingArc}
use Rattle.chaos_core.specs.TurnMarks.{IsOld}
use Rattle.chaos_core.proofs.marks.TurnMarks.is_settled.Given as goal

abbrev pub invariant-loop-arc : goal.invariant-loop-arc
invariant-loop-arc l = (i : ℕ) (a : TimingArc) → i < l.arc-index → IsOld l.self l.seen (get_or l.arc-items i a).from.0
