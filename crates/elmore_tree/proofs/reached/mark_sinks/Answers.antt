use Rattle.std.proofs.Common.{ℕ, subst, arith}
use Rattle.std.proofs.lemmas.List.{take_all}
use Rattle.elmore_tree.specs.Gathering.{AreMarked}
use Rattle.elmore_tree.proofs.Marking.{none_marked, one_marked}
use Rattle.elmore_tree.proofs.reached.mark_sinks.Goals as goal

pub loop-sink-init : goal.loop-sink-init
loop-sink-init c = none_marked (λ (p : ℕ). p) c.args.marks.now

pub bounds-sinks-sink-index : goal.bounds-sinks-sink-index
bounds-sinks-sink-index c = c.loop-sink-test.true

pub bounds-marks-sink : goal.bounds-marks-sink
bounds-marks-sink c =
    let there = c.requires c.loop-sink.sink-index 0 c.loop-sink-test.true in
    let count = c.loop-sink.auto.marks in
    omega (arith, there, count)

pub loop-sink-preserved : goal.loop-sink-preserved
loop-sink-preserved c =
    let there = c.requires c.loop-sink.sink-index 0 c.loop-sink-test.true in
    let count = c.loop-sink.auto.marks in
    one_marked (λ (p : ℕ). p) c.args.sinks.now c.loop-sink.sink-index 0 c.args.marks.now c.loop-sink.marks c.loop-sink-test.true (omega (arith, there, count)) c.loop-sink.invariant

pub returns : goal.returns
returns c = subst (λ xs. AreMarked (λ (p : ℕ). p) xs c.args.marks.now c.loop-sink.marks) (take_all c.loop-sink.sink-index c.args.sinks.now c.loop-sink-test.false) c.loop-sink.invariant
