use Rattle.std.proofs.Common.{ap, length}
use Rattle.chaos_core.specs.TurnMarks.{Marks}
use Rattle.chaos_core.proofs.Telling.{counts_none, marks_unseen, unseen_none}
use Rattle.chaos_core.proofs.known.Known.new.Goals as goal

pub returns-then-workers-eq1 : goal.returns-then-workers-eq1
returns-then-workers-eq1 c =
    let d = c.args.design.now in
    let marks = c.in_ok-marks.marks in
    let count = length c.nets.result.now in
    let made = c.in_ok-marks.ensures in
    record {
      one = c.if-workers-eq1.true;
      marks = marks_unseen d c.args.board.now.words marks
          (counts_none d marks count (ap length c.nets.ensures.value) (ap (λ (m : Marks). m.moved) made) (ap (λ (m : Marks). m.answers) made) (ap (λ (m : Marks). m.seen) made))
          (unseen_none marks count (ap (λ (m : Marks). m.seen) made));
      listed = c.in_ok-lists.ensures;
    }
