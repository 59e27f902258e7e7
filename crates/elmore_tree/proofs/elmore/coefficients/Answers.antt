use Rattle.std.proofs.Common.{◌∙◌}
use Rattle.elmore_tree.proofs.FormLaws.{preorder_walk, needed_visited, stored_load, load_fits}
use Rattle.elmore_tree.proofs.UniqueLaws.{form_is}
use Rattle.elmore_tree.proofs.elmore.coefficients.Goals as goal

pub sink_forms-requires-clause-walk : goal.sink_forms-requires-clause-walk
sink_forms-requires-clause-walk c = let w = c.in_ok-steps.ensures.ok in rw c.deref.ensures.value (preorder_walk c.args.tree.now w.reached c.in_ok-steps.steps.items w.sound w.walked)

pub sink_forms-requires-clause-reached : goal.sink_forms-requires-clause-reached
sink_forms-requires-clause-reached c = let w = c.in_ok-steps.ensures.ok in rw c.deref.ensures.value (needed_visited c.args.tree.now w.needed w.reached c.in_ok-steps.steps.items w.walked w.each w.all)

pub returns-clause-ok : goal.returns-clause-ok
returns-clause-ok c =
    let t = c.args.tree.now in
    let w = c.in_ok-steps.ensures.ok in
    let forms = rw c.deref.ensures.value at c.in_ok-sinks.ensures in
    form_is t c.in_ok-steps.steps.items w _ (stored_load _ c.load.result c.load.ensures (load_fits t w.sound)) (c.from_vec.ensures ∙ forms)
