use Rattle.std.proofs.Common.{ℕ, ◌<◌, get_or, false}
use Rattle.std.specs.Prelude.{IsTrue}
use Rattle.xt_model.specs.declared.net.TimingArc.{TimingArc}
use Rattle.chaos_core.proofs.unmoved.are_inputs_marked.Given as goal

abbrev pub invariant-loop-arc : goal.invariant-loop-arc
invariant-loop-arc l = (i : ℕ) (a : TimingArc) → i < l.arc-index → IsTrue (get_or l.marks (get_or l.arc-items i a).from.0 false)
