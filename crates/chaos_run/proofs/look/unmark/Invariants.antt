use Rattle.std.proofs.Common.{◌≡◌, ℕ, ◌<◌, length, get_or, false}
use Rattle.std.specs.Prelude.{IsTrue}
use Rattle.chaos_run.proofs.look.unmark.Given as goal

abbrev pub invariant-loop-net : goal.invariant-loop-net
invariant-loop-net l = record {
  count : length l.marks ≡ length l.initial.marks;
  none : (n : ℕ) → n < l.net → IsTrue (get_or l.marks n false) → ⊥;
}
