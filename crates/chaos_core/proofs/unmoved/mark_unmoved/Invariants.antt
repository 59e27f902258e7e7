use Rattle.std.proofs.Common.{◌≡◌, ℕ, ◌<◌, length, get_or, false}
use Rattle.std.specs.Prelude.{IsTrue}
use Rattle.xt_model.specs.declared.edge.Edge.{Edge}
use Rattle.xt_model.specs.Assign.{assigned}
use Rattle.chaos_core.proofs.unmoved.mark_unmoved.Given as goal

abbrev pub invariant-loop-net : goal.invariant-loop-net
invariant-loop-net l = record {
  count : length l.marks ≡ length l.before;
  same : (n : ℕ) → n < l.net → IsTrue (get_or l.marks n false) → (e : Edge) → assigned l.before n e ≡ assigned l.after n e;
}
