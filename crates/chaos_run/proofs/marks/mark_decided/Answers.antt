use Rattle.std.proofs.Common.{arith, sym, subst, ◌∙◌}
use Rattle.chaos_core.specs.Looks.{AreDecided}
use Rattle.chaos_run.proofs.marks.mark_decided.Goals as goal

pub mark_alike-requires-clause-sound : goal.mark_alike-requires-clause-sound
mark_alike-requires-clause-sound g c = λ _ _. c.requires.sound

pub mark_alike-requires-clause-unmoved : goal.mark_alike-requires-clause-unmoved
mark_alike-requires-clause-unmoved g c = λ _ _. c.requires.unmoved

pub mark_alike-requires-clause-before : goal.mark_alike-requires-clause-before
mark_alike-requires-clause-before g c = λ _ _. c.requires.before

pub mark_alike-requires-clause-after : goal.mark_alike-requires-clause-after
mark_alike-requires-clause-after g c = λ _ _. c.requires.after

pub mark_alike-requires-clause-marks : goal.mark_alike-requires-clause-marks
mark_alike-requires-clause-marks g c = λ _ _. c.requires.marks

pub mark_alike-requires-clause-some : goal.mark_alike-requires-clause-some
mark_alike-requires-clause-some g c = λ _ _. let is = c.clamp-threads.ensures in omega (arith, is)

pub mark_from_alike-requires-clause-sound : goal.mark_from_alike-requires-clause-sound
mark_from_alike-requires-clause-sound g c = λ _ _. c.requires.sound

pub mark_from_alike-requires-clause-before : goal.mark_from_alike-requires-clause-before
mark_from_alike-requires-clause-before g c = λ _ _. c.requires.before

pub mark_from_alike-requires-clause-after : goal.mark_from_alike-requires-clause-after
mark_from_alike-requires-clause-after g c = λ _ _. c.requires.after

pub mark_from_alike-requires-clause-count : goal.mark_from_alike-requires-clause-count
mark_from_alike-requires-clause-count g c = λ _ _. c.mark_alike.ensures.count ∙ c.requires.marks

pub mark_from_alike-requires-clause-alike : goal.mark_from_alike-requires-clause-alike
mark_from_alike-requires-clause-alike g c = λ _ _. c.mark_alike.ensures.alike

pub mark_from_alike-requires-clause-marks : goal.mark_from_alike-requires-clause-marks
mark_from_alike-requires-clause-marks g c = λ _ _. c.requires.unmoved.count ∙ c.requires.before

pub copy_from_slice-requires : goal.copy_from_slice-requires
copy_from_slice-requires g c =
    let alike = c.mark_alike.ensures.count in
    let marks = c.requires.marks in
    let decided = c.mark_from_alike.auto.marks in
    let unmoved = c.requires.unmoved.count in
    let before = c.requires.before in
    omega (arith, alike, marks, decided, unmoved, before)

pub returns-clause-unmoved : goal.returns-clause-unmoved
returns-clause-unmoved g c = c.mark_from_alike.auto.marks

pub returns-clause-decided : goal.returns-clause-decided
returns-clause-decided g c = subst (AreDecided c.args.design.now c.args.before.now c.args.after.now) (sym c.copy_from_slice.ensures.after) c.mark_from_alike.ensures

pub mark_from_alike-requires-clause-some : goal.mark_from_alike-requires-clause-some
mark_from_alike-requires-clause-some g c = λ _ _. let is = c.clamp-threads.ensures in omega (arith, is)
