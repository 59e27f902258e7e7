use Rattle.std.proofs.Common.{refl, sym, subst, arith}
use Rattle.std.specs.Prelude.{Option, IfSome}
use Rattle.xt_model.specs.declared.net.Net.{Net}
use Rattle.xt_meaning.specs.Words.{numbers_of}
use Rattle.chaos_core.specs.TurnMarks.{AreMarks, IsSettledNet}
use Rattle.chaos_core.proofs.PassLaws.{held_from_steady, steady_from_hold}
use Rattle.chaos_core.proofs.Telling.{inputs_there, marks_seen}
use Rattle.chaos_core.proofs.look.is_steady.Goals as goal

pub is_settled-requires-clause-seen : goal.is_settled-requires-clause-seen
is_settled-requires-clause-seen c = let n = c.requires.marks.counts.seen in let h = c.requires.net in omega (arith, n, h)

pub is_settled-requires-clause-answers : goal.is_settled-requires-clause-answers
is_settled-requires-clause-answers c = let n = c.requires.marks.counts.answers in let h = c.requires.net in omega (arith, n, h)

pub is_settled-requires-clause-inputs : goal.is_settled-requires-clause-inputs
is_settled-requires-clause-inputs c = inputs_there c.args.design.now c.args.net c.net.result.now _ c.requires.marks.counts.moved c.net.ensures.sound

pub is_settled-requires-clause-inputs_answers : goal.is_settled-requires-clause-inputs_answers
is_settled-requires-clause-inputs_answers c = inputs_there c.args.design.now c.args.net c.net.result.now _ c.requires.marks.counts.answers c.net.ensures.sound

pub returns-then-is_settled-clause-steady : goal.returns-then-is_settled-clause-steady
returns-then-is_settled-clause-steady c = (
  λ t.
      let d = c.args.design.now in
      let v = c.args.windows.now in
      let settled = subst (λ (o : Option Net). IfSome o (IsSettledNet c.args.marks.now c.args.net)) (sym c.net.ensures.there) (c.is_settled.ensures c.if-is_settled.true) in
      let held = c.requires.marks.settled c.args.net c.requires.net settled in
      steady_from_hold d (numbers_of v) v c.args.net c.requires.windows.in_range refl held.hold held.range,
  λ h. refl,
)

pub returns-clause-marks : goal.returns-clause-marks
returns-clause-marks c =
    let d = c.args.design.now in
    let v = c.args.windows.now in
    let words = numbers_of v in
    let e = c.requires.next in
    let steady = c.closed_part_grouped.ensures.0 c.if-not-closed_part_grouped.false c.args.net (omega arith) (omega (arith, e)) in
    let held = held_from_steady d words v c.args.net c.net.ensures.whole c.requires.windows c.requires.within refl steady in
    subst (AreMarks d words) (sym c.note_look.ensures) (marks_seen d words c.args.marks.now c.args.net c.requires.marks held)
