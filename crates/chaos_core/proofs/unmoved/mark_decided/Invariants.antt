use Rattle.std.proofs.Common.{◌≡◌, ℕ, ◌<◌, length, get_or, false}
use Rattle.std.specs.Prelude.{IsTrue}
use Rattle.xt_model.specs.Assign.{assigned}
use Rattle.chaos_core.specs.Alike.{AreDecidedAlike}
use Rattle.chaos_core.proofs.unmoved.mark_decided.Given as goal

abbrev pub invariant-loop-net : goal.invariant-loop-net
invariant-loop-net l = record {
  count : length l.unmoved ≡ length l.design.nets;
  alike : (n : ℕ) → n < l.net → IsTrue (get_or l.unmoved n false) → AreDecidedAlike l.design (assigned l.before) (assigned l.after) n;
}
