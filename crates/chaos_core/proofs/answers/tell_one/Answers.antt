use Rattle.std.proofs.Common.{refl, inl, inr}
use Rattle.chaos_core.proofs.answers.tell_one.Goals as goal

pub has_answer-requires : goal.has_answer-requires
has_answer-requires c = c.requires.noted

pub meet_alike-requires-clause-period : goal.meet_alike-requires-clause-period
meet_alike-requires-clause-period c = c.requires.period

pub meet_alike-requires-clause-other : goal.meet_alike-requires-clause-other
meet_alike-requires-clause-other c = c.pair.ensures.in_range

pub note_answer-requires : goal.note_answer-requires
note_answer-requires c = c.requires.noted

pub returns-then-has_answer-clause-told : goal.returns-then-has_answer-clause-told
returns-then-has_answer-clause-told c = inr (c.has_answer.ensures c.if-has_answer.true)

pub returns-then-has_answer-clause-each : goal.returns-then-has_answer-clause-each
returns-then-has_answer-clause-each c = record { count = refl; each = λ _. inl refl }

pub returns-then-meet_alike-clause-each : goal.returns-then-meet_alike-clause-each
returns-then-meet_alike-clause-each c = record { count = refl; each = λ _. inl refl }

pub returns-clause-rest : goal.returns-clause-rest
returns-clause-rest c = rw c.note_answer.ensures refl
