use Rattle.std.proofs.Common.{◌≡◌, ℕ, ◌<◌, ◌⊎◌}
use Rattle.std.specs.Prelude.{slice_index}
use Rattle.xt_model.specs.Assign.{assigned}
use Rattle.net_eval.specs.ReadLists.{ids}
use Rattle.chaos_core.specs.TurnMarks.{AreTold, MeetAlike}
use Rattle.chaos_core.proofs.answers.tell_others.Given as goal

abbrev pub invariant-loop-other : goal.invariant-loop-other
invariant-loop-other l = record {
  told : AreTold l.initial.marks.turn l.initial.marks.answers l.marks.answers;
  rest : l.marks ≡ record l.initial.marks { answers = l.marks.answers };
  others : (i : ℕ) → i < l.other-index → MeetAlike l.moved.period l.moved.inner.now l.moved.outer.now (assigned l.windows) (slice_index (ids l.others) i)
      ⊎ (slice_index l.marks.answers (slice_index (ids l.others) i) ≡ l.initial.marks.turn);
}
