use Rattle.std.proofs.Common.{ℕ, ◌<◌, get_or}
use Rattle.std.specs.Prelude.{IfSome}
use Rattle.xt_model.specs.declared.net.TimingArc.{TimingArc}
use Rattle.chaos_core.specs.Spared.{IsInputAlike}
use Rattle.chaos_core.proofs.alike.are_inputs_alike.Given as goal

abbrev pub invariant-loop-arc : goal.invariant-loop-arc
invariant-loop-arc g l = record {
  known : IfSome l.known (λ m. IsInputAlike l.design (g.T.TwoTimes.earlier l.two) (g.T.TwoTimes.later l.two) m.0);
  all : (i : ℕ) (a : TimingArc) → i < l.arc-index → IsInputAlike l.design (g.T.TwoTimes.earlier l.two) (g.T.TwoTimes.later l.two) (get_or l.arc-items i a).from.0;
}
