use Rattle.std.proofs.Common.{◌≡◌, ◌∙◌, ap, arith, refl, get_or, ◌-◌, ◌+◌, false}
use Rattle.std.proofs.lemmas.List.{get_or_read}
use Rattle.elmore_tree.specs.Orders.{no_link, link_at}
use Rattle.elmore_tree.proofs.GatherLaws.{no_step, step_ends}
use Rattle.elmore_tree.proofs.LinkLaws.{further, start_at, on_turn}
use Rattle.elmore_tree.proofs.order.links_on.Goals as goal

pub bounds-tapped-step : goal.bounds-tapped-step
bounds-tapped-step c =
    let ends = step_ends c.args.tree.now c.args.steps.now c.requires.walk.grown c.requires.walk.sound (c.loop-index.index - 1) no_step (omega arith) in
    let count = c.requires.tapped.count in
    omega (arith, ends.1)

pub bounds-resistances-step : goal.bounds-resistances-step
bounds-resistances-step c =
    let ends = step_ends c.args.tree.now c.args.steps.now c.requires.walk.grown c.requires.walk.sound (c.loop-index.index - 1) no_step (omega arith) in
    let count = c.requires.resistances.count in
    omega (arith, ends.0)

pub loop-index-preserved : goal.loop-index-preserved
loop-index-preserved c =
    let t = c.args.tree.now in
    let steps = c.args.steps.now in
    let grown = c.requires.walk.grown in
    let order = c.requires.walk.order in
    let n = c.loop-index.index in
    let i = c.loop-index.index - 1 in
    let more = c.loop-index-test.true in
    let le = c.loop-index.auto.index in
    let count = c.loop-index.invariant.count in
    let same : c.loop-index.index - 1 + 1 ≡ c.loop-index.index = omega (arith, more) in
    let old = get_or_read c.loop-index.links.items (i + 1) c.index.result.now (omega (arith, count, le, more)) c.index.ensures no_link in
    let r = get_or c.args.resistances.now (get_or steps i no_step).from 0 in
    let marked = get_or c.args.tapped.now (get_or steps i no_step).to false in
    let made : c.further-link.result ≡ further marked n r (link_at c.loop-index.links.items n) =
    c.further-link.ensures ∙ (ap (further marked (i + 1) r) old ∙ ap (λ m. further marked m r (link_at c.loop-index.links.items m)) same) in
    rw made (on_turn t steps grown order c.loop-index.links.items n i no_step c.args.tapped.now marked r (omega (arith, more)) le (start_at t steps grown order c.args.resistances.now i no_step (omega (arith, le, more)) c.requires.resistances) c.requires.tapped refl c.loop-index.invariant)
