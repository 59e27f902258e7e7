use Rattle.std.proofs.Common.{◌≡◌, ℕ, ◌<◌, length, get_or, false}
use Rattle.std.specs.Prelude.{IsTrue}
use Rattle.xt_model.specs.Assign.{assigned}
use Rattle.chaos_core.specs.Spared.{IsInputAlike}
use Rattle.chaos_core.proofs.unmoved.mark_alike.Given as goal

abbrev pub invariant-loop-net : goal.invariant-loop-net
invariant-loop-net l = record {
  count : length l.marks ≡ length l.design.nets;
  alike : (n : ℕ) → n < l.net → IsTrue (get_or l.marks n false) → IsInputAlike l.design (assigned l.before) (assigned l.after) n;
}
