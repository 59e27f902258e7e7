use Rattle.std.proofs.Common.{◌≡◌, ℕ, ◌<◌, ◌⊎◌, get_or}
use Rattle.std.specs.Prelude.{slice_index}
use Rattle.xt_model.specs.declared.net.Coupling.{Coupling}
use Rattle.xt_model.specs.Assign.{assigned}
use Rattle.chaos_core.specs.TurnMarks.{AreTold, MeetAlike}
use Rattle.chaos_core.proofs.answers.tell_own.Given as goal

abbrev pub invariant-loop-coupling : goal.invariant-loop-coupling
invariant-loop-coupling l = record {
  told : AreTold l.initial.marks.turn l.initial.marks.answers l.marks.answers;
  rest : l.marks ≡ record l.initial.marks { answers = l.marks.answers };
  own : (i : ℕ) (k : Coupling) → i < l.coupling-index → MeetAlike l.moved.period l.moved.inner.now l.moved.outer.now (assigned l.windows) (get_or l.coupling-items i k).to.0
      ⊎ (slice_index l.marks.answers l.net.0 ≡ l.initial.marks.turn);
}
