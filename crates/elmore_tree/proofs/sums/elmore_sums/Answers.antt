use Rattle.std.proofs.Common.{◌≡◌, ◌-◌, arith, refl, rules}
use Rattle.std.proofs.lemmas.List.{get_or_read}
use Rattle.elmore_tree.proofs.GatherLaws.{no_step, gather_begins, gather_turn, pair_most, sums_begin, sums_turn, step_ends, flow_fits, sum_fits}
use Rattle.elmore_tree.proofs.sums.elmore_sums.Goals as goal

pub loop-index-init : goal.loop-index-init
loop-index-init c = gather_begins _ _ c.requires.grown c.nodes-nodes.ensures.sound _ _ refl c.requires.count c.requires.most

pub index-behind-requires : goal.index-behind-requires
index-behind-requires c =
    let ends = step_ends c.args.tree.now c.args.steps.now c.requires.grown c.nodes-nodes.ensures.sound (c.loop-index.index - 1) no_step (omega arith) in
    let count = c.loop-index.invariant.count in
    omega (arith, ends.1)

pub index_mut-requires : goal.index_mut-requires
index_mut-requires c =
    let ends = step_ends c.args.tree.now c.args.steps.now c.requires.grown c.nodes-nodes.ensures.sound (c.loop-index.index - 1) no_step (omega arith) in
    let count = c.loop-index.invariant.count in
    omega (arith, ends.0)

pub overflow_add-index_mut : goal.overflow_add-index_mut
overflow_add-index_mut c =
    let t = c.args.tree.now in
    let steps = c.args.steps.now in
    let ends = step_ends t steps c.requires.grown c.nodes-nodes.ensures.sound (c.loop-index.index - 1) no_step (omega arith) in
    let count = c.loop-index.invariant.count in
    let most = pair_most t steps c.requires.grown c.nodes-nodes.ensures.sound c.args.caps.items c.loop-index.caps.items c.loop-index.index (c.loop-index.index - 1) no_step (omega arith) (omega arith) c.loop-index.invariant in
    let a = get_or_read c.loop-index.caps.items _ _ (omega (arith, ends.0)) c.index_mut.ensures.value 0 in
    let b = get_or_read c.loop-index.caps.items _ _ (omega (arith, ends.1)) c.index-behind.ensures 0 in
    rw (a, b) (omega (arith, most))

pub loop-index-preserved : goal.loop-index-preserved
loop-index-preserved c =
    let t = c.args.tree.now in
    let steps = c.args.steps.now in
    let ends = step_ends t steps c.requires.grown c.nodes-nodes.ensures.sound (c.loop-index.index - 1) no_step (omega arith) in
    let count = c.loop-index.invariant.count in
    let a = get_or_read c.loop-index.caps.items _ _ (omega (arith, ends.0)) c.index_mut.ensures.value 0 in
    let b = get_or_read c.loop-index.caps.items _ _ (omega (arith, ends.1)) c.index-behind.ensures 0 in
    rw (a, b) (gather_turn t steps c.requires.grown c.nodes-nodes.ensures.sound c.args.caps.items c.loop-index.caps.items c.loop-index.index (c.loop-index.index - 1) no_step (omega arith) (omega arith) c.loop-index.invariant)

pub loop-step-init : goal.loop-step-init
loop-step-init c = sums_begin c.args.tree.now c.args.steps.now c.requires.grown c.nodes-nodes.ensures.sound _ _ (rw (← c.nodes-nodes.ensures.value) (search (rules, c.in_ok-sums.ensures)))

pub resistance-requires : goal.resistance-requires
resistance-requires c = (step_ends c.args.tree.now c.args.steps.now c.requires.grown c.nodes-nodes.ensures.sound c.loop-step.step-index no_step (omega arith)).2

pub index-requires : goal.index-requires
index-requires c =
    let ends = step_ends c.args.tree.now c.args.steps.now c.requires.grown c.nodes-nodes.ensures.sound c.loop-step.step-index no_step (omega arith) in
    let count = c.loop-index.invariant.count in
    omega (arith, ends.1)

pub share-added-requires-clause-behind : goal.share-added-requires-clause-behind
share-added-requires-clause-behind c =
    let zero : c.loop-index.index ≡ 0 = omega arith in
    let gathered = rw zero at c.loop-index.invariant in
    let ends = step_ends c.args.tree.now c.args.steps.now c.requires.grown c.nodes-nodes.ensures.sound c.loop-step.step-index no_step (omega arith) in
    let caps_count = c.loop-index.invariant.count in
    let sums_count = c.loop-step.invariant.count in
    let flow = get_or_read c.loop-index.caps.items _ _ (omega (arith, ends.1)) c.index.ensures 0 in
    rw flow (flow_fits c.args.tree.now c.args.steps.now c.requires.grown c.nodes-nodes.ensures.sound c.args.caps.items c.loop-index.caps.items c.loop-step.step-index no_step (omega arith) c.requires.most gathered)

pub index-requires-in-loop-step : goal.index-requires-in-loop-step
index-requires-in-loop-step c =
    let ends = step_ends c.args.tree.now c.args.steps.now c.requires.grown c.nodes-nodes.ensures.sound c.loop-step.step-index no_step (omega arith) in
    let count = c.loop-step.invariant.count in
    omega (arith, ends.0)

pub overflow_add-sum : goal.overflow_add-sum
overflow_add-sum c =
    let zero : c.loop-index.index ≡ 0 = omega arith in
    let gathered = rw zero at c.loop-index.invariant in
    let ends = step_ends c.args.tree.now c.args.steps.now c.requires.grown c.nodes-nodes.ensures.sound c.loop-step.step-index no_step (omega arith) in
    let caps_count = c.loop-index.invariant.count in
    let sums_count = c.loop-step.invariant.count in
    let flow = get_or_read c.loop-index.caps.items _ _ (omega (arith, ends.1)) c.index.ensures 0 in
    let from = get_or_read c.loop-step.sums.items _ _ (omega (arith, ends.0)) c.index-in-loop-step.ensures 0 in
    let most = sum_fits c.args.tree.now c.args.steps.now c.requires.grown c.nodes-nodes.ensures.sound c.args.caps.items c.loop-index.caps.items c.loop-step.sums.items c.loop-step.step-index no_step (omega arith) c.requires.few c.requires.most gathered c.loop-step.invariant in
    rw (c.share-added.ensures.value, c.resistance.ensures.value, from, flow) (omega (arith, most))

pub index_mut-requires-in-loop-step : goal.index_mut-requires-in-loop-step
index_mut-requires-in-loop-step c =
    let ends = step_ends c.args.tree.now c.args.steps.now c.requires.grown c.nodes-nodes.ensures.sound c.loop-step.step-index no_step (omega arith) in
    let count = c.loop-step.invariant.count in
    omega (arith, ends.1)

pub loop-step-preserved : goal.loop-step-preserved
loop-step-preserved c =
    let zero : c.loop-index.index ≡ 0 = omega arith in
    let gathered = rw zero at c.loop-index.invariant in
    let ends = step_ends c.args.tree.now c.args.steps.now c.requires.grown c.nodes-nodes.ensures.sound c.loop-step.step-index no_step (omega arith) in
    let caps_count = c.loop-index.invariant.count in
    let sums_count = c.loop-step.invariant.count in
    let flow = get_or_read c.loop-index.caps.items _ _ (omega (arith, ends.1)) c.index.ensures 0 in
    let from = get_or_read c.loop-step.sums.items _ _ (omega (arith, ends.0)) c.index-in-loop-step.ensures 0 in
    rw (c.share-added.ensures.value, c.resistance.ensures.value, from, flow) (sums_turn c.args.tree.now c.args.steps.now c.requires.grown c.nodes-nodes.ensures.sound c.args.caps.items c.loop-index.caps.items c.loop-step.sums.items c.loop-step.step-index no_step (omega arith) gathered c.loop-step.invariant)
