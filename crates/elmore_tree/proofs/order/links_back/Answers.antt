use Rattle.std.proofs.Common.{◌≡◌, ◌∙◌, ap, arith, refl, get_or}
use Rattle.std.proofs.lemmas.List.{get_or_read}
use Rattle.elmore_tree.specs.Orders.{no_link, link_at}
use Rattle.elmore_tree.proofs.GatherLaws.{no_step, step_ends}
use Rattle.elmore_tree.proofs.LinkLaws.{further, start_at, back_turn, passes_turn}
use Rattle.elmore_tree.proofs.order.links_back.Goals as goal

pub bounds-resistances-step : goal.bounds-resistances-step
bounds-resistances-step c =
    let ends = step_ends c.args.tree.now c.args.steps.now c.requires.walk.grown c.requires.walk.sound c.loop-index.index no_step c.loop-index-test.true in
    let count = c.requires.resistances.count in
    omega (arith, ends.0)

pub bounds-tapped-step : goal.bounds-tapped-step
bounds-tapped-step c =
    let ends = step_ends c.args.tree.now c.args.steps.now c.requires.walk.grown c.requires.walk.sound c.loop-index.index no_step c.loop-index-test.true in
    let count = c.requires.tapped.count in
    omega (arith, ends.1)

pub loop-index-preserved : goal.loop-index-preserved
loop-index-preserved c =
    let t = c.args.tree.now in
    let steps = c.args.steps.now in
    let grown = c.requires.walk.grown in
    let order = c.requires.walk.order in
    let i = c.loop-index.index in
    let lt = c.loop-index-test.true in
    let count = c.loop-index.invariant.links.count in
    let old = get_or_read c.loop-index.links.items i c.index.result.now (omega (arith, count, lt)) c.index.ensures no_link in
    let r = get_or c.args.resistances.now (get_or steps i no_step).from 0 in
    let made : c.further-link.result ≡ further c.loop-index.counts i r (link_at c.loop-index.links.items i) = c.further-link.ensures ∙ ap (further c.loop-index.counts i r) old in
    record {
      links = rw made (back_turn t steps grown order c.loop-index.links.items i no_step c.loop-index.counts r lt (start_at t steps grown order c.args.resistances.now i no_step lt c.requires.resistances) c.loop-index.invariant.passes c.loop-index.invariant.links);
      passes = passes_turn t steps grown order c.args.tapped.now i no_step _ lt c.requires.tapped refl;
    }
