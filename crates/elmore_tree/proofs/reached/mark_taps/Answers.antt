use Rattle.std.proofs.Common.{subst, arith}
use Rattle.std.proofs.lemmas.List.{take_all}
use Rattle.elmore_tree.specs.declared.part.Tap.{Tap}
use Rattle.elmore_tree.proofs.FormLaws.{no_tap}
use Rattle.elmore_tree.specs.Gathering.{AreMarked}
use Rattle.elmore_tree.proofs.Marking.{none_marked, one_marked}
use Rattle.elmore_tree.proofs.reached.mark_taps.Goals as goal

pub loop-tap-init : goal.loop-tap-init
loop-tap-init c = none_marked (λ (t : Tap). t.node) c.args.marks.now

pub bounds-taps-tap-index : goal.bounds-taps-tap-index
bounds-taps-tap-index c = c.loop-tap-test.true

pub bounds-marks-tap : goal.bounds-marks-tap
bounds-marks-tap c =
    let there = c.requires c.loop-tap.tap-index no_tap c.loop-tap-test.true in
    let count = c.loop-tap.auto.marks in
    omega (arith, there, count)

pub loop-tap-preserved : goal.loop-tap-preserved
loop-tap-preserved c =
    let there = c.requires c.loop-tap.tap-index no_tap c.loop-tap-test.true in
    let count = c.loop-tap.auto.marks in
    one_marked (λ (t : Tap). t.node) c.args.taps.now c.loop-tap.tap-index no_tap c.args.marks.now c.loop-tap.marks c.loop-tap-test.true (omega (arith, there, count)) c.loop-tap.invariant

pub returns : goal.returns
returns c = subst (λ xs. AreMarked (λ (t : Tap). t.node) xs c.args.marks.now c.loop-tap.marks) (take_all c.loop-tap.tap-index c.args.taps.now c.loop-tap-test.false) c.loop-tap.invariant
