use Rattle.std.proofs.Common.{arith, rules}
use Rattle.std.proofs.lemmas.List.{get_or_read}
use Rattle.elmore_tree.proofs.GatherLaws.{no_step, step_ends}
use Rattle.elmore_tree.proofs.LinkLaws.{resistances_begin, resistances_turn, resistance_fits}
use Rattle.elmore_tree.proofs.order.path_resistances.Goals as goal

pub loop-step-init : goal.loop-step-init
loop-step-init c = resistances_begin c.args.tree.now c.args.steps.now c.requires.grown c.requires.sound c.in_ok-sums.sums.items (rw (← c.nodes.ensures.value) (search (rules, c.in_ok-sums.ensures)))

pub index-requires : goal.index-requires
index-requires c =
    let ends = step_ends c.args.tree.now c.args.steps.now c.requires.grown c.requires.sound c.loop-step.step-index no_step c.loop-step-test.true in
    let count = c.loop-step.invariant.count in
    omega (arith, ends.0)

pub resistance-requires : goal.resistance-requires
resistance-requires c = (step_ends c.args.tree.now c.args.steps.now c.requires.grown c.requires.sound c.loop-step.step-index no_step c.loop-step-test.true).2

pub overflow_add-sum : goal.overflow_add-sum
overflow_add-sum c =
    let ends = step_ends c.args.tree.now c.args.steps.now c.requires.grown c.requires.sound c.loop-step.step-index no_step c.loop-step-test.true in
    let count = c.loop-step.invariant.count in
    let from = get_or_read c.loop-step.sums.items _ _ (omega (arith, ends.0)) c.index.ensures 0 in
    let most = resistance_fits c.args.tree.now c.args.steps.now c.requires.grown c.requires.sound c.loop-step.sums.items c.loop-step.step-index no_step c.loop-step-test.true c.requires.few c.loop-step.invariant in
    rw (c.resistance.ensures.value, from) (omega (arith, most))

pub index_mut-requires : goal.index_mut-requires
index_mut-requires c =
    let ends = step_ends c.args.tree.now c.args.steps.now c.requires.grown c.requires.sound c.loop-step.step-index no_step c.loop-step-test.true in
    let count = c.loop-step.invariant.count in
    omega (arith, ends.1)

pub loop-step-preserved : goal.loop-step-preserved
loop-step-preserved c =
    let ends = step_ends c.args.tree.now c.args.steps.now c.requires.grown c.requires.sound c.loop-step.step-index no_step c.loop-step-test.true in
    let count = c.loop-step.invariant.count in
    let from = get_or_read c.loop-step.sums.items _ _ (omega (arith, ends.0)) c.index.ensures 0 in
    rw (c.resistance.ensures.value, from) (resistances_turn c.args.tree.now c.args.steps.now c.requires.grown c.requires.sound c.loop-step.sums.items c.loop-step.step-index no_step c.loop-step-test.true c.loop-step.invariant)
