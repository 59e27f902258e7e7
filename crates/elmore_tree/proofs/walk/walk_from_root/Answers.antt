use Rattle.std.proofs.Common.{◌<◌, refl, arith, ap, sym, ◌∙◌, ◌≡◌, ◌+◌, length}
use Rattle.std.proofs.lemmas.List.{length_push}
use Rattle.elmore_tree.specs.Paths.{is_on}
use Rattle.elmore_tree.proofs.Walking.{walk_goes_at, last_there, last_visited, spread_more, spread_first, walk_ends, few_steps}
use Rattle.elmore_tree.proofs.OrderLaws.{node_last}
use Rattle.elmore_tree.proofs.Rows.{row_read}
use Rattle.elmore_tree.proofs.walk.walk_from_root.Goals as goal

pub index-requires-in-Some : goal.index-requires-in-Some
index-requires-in-Some c =
    let t = c.args.tree.now in
    let lt : c.in-Some.step.to < t.nodes = last_there t c.steps.walk.reached.items c.steps.walk.steps.items c.pop.new.self.items c.in-Some.step (walk_goes_at t _ _ _ _ _ _ c.in-Some.ensures.items refl c.steps.invariant.walk) in
    let count = c.in_ok-rows.ensures.count in
    omega arith

pub spread-requires-in-Some-clause-walk : goal.spread-requires-in-Some-clause-walk
spread-requires-in-Some-clause-walk c =
    walk_goes_at c.args.tree.now _ _ _ _ _ _ c.in-Some.ensures.items c.in_ok-push.ensures.items c.steps.invariant.walk

pub spread-requires-in-Some-clause-visited : goal.spread-requires-in-Some-clause-visited
spread-requires-in-Some-clause-visited c = rw c.in_ok-push.ensures.items (last_visited c.args.tree.now _ _)

pub spread-requires-in-Some-clause-last : goal.spread-requires-in-Some-clause-last
spread-requires-in-Some-clause-last c = rw c.in_ok-push.ensures.items (sym (node_last c.args.tree.now c.steps.walk.steps.items c.in-Some.step))

pub spread-requires-in-Some-clause-touch : goal.spread-requires-in-Some-clause-touch
spread-requires-in-Some-clause-touch c =
    let t = c.args.tree.now in
    let lt : c.in-Some.step.to < t.nodes = last_there t c.steps.walk.reached.items c.steps.walk.steps.items c.pop.new.self.items c.in-Some.step (walk_goes_at t _ _ _ _ _ _ c.in-Some.ensures.items refl c.steps.invariant.walk) in
    let count = c.in_ok-rows.ensures.count in
    let e = row_read c.in_ok-rows.rows.items c.in-Some.step.to _ c.as_slice-in-Some.result.now (omega arith) c.index-in-Some.ensures c.as_slice-in-Some.ensures in
    λ j h. c.in_ok-rows.ensures.touch j c.in-Some.step.to (ap (λ xs. is_on xs j) (sym e) ∙ h)

pub spread-requires-in-Some-clause-all : goal.spread-requires-in-Some-clause-all
spread-requires-in-Some-clause-all c =
    let t = c.args.tree.now in
    let lt : c.in-Some.step.to < t.nodes = last_there t c.steps.walk.reached.items c.steps.walk.steps.items c.pop.new.self.items c.in-Some.step (walk_goes_at t _ _ _ _ _ _ c.in-Some.ensures.items refl c.steps.invariant.walk) in
    let count = c.in_ok-rows.ensures.count in
    let e = row_read c.in_ok-rows.rows.items c.in-Some.step.to _ c.as_slice-in-Some.result.now (omega arith) c.index-in-Some.ensures c.as_slice-in-Some.ensures in
    λ j h. ap (λ xs. is_on xs j) e ∙ c.in_ok-rows.ensures.all j c.in-Some.step.to h

pub steps-init : goal.steps-init
steps-init c = record {
  walk = c.in_ok-spread.ensures.walk;
  spread = spread_first c.args.tree.now _ _ (c.in_ok-spread.ensures.steps ∙ c.in_ok-walk.ensures.steps) (rw c.root-root.ensures.value at c.in_ok-spread.ensures.spread);
}

pub steps-preserved : goal.steps-preserved
steps-preserved c =
    let e = c.in_ok-spread-2.ensures.steps ∙ c.in_ok-push.ensures.items in
    record {
      walk = c.in_ok-spread-2.ensures.walk;
      spread = rw e (spread_more c.args.tree.now _ _ _ _ c.steps.invariant.spread c.in_ok-spread-2.ensures.keeps c.in_ok-spread-2.ensures.spread);
    }

pub steps-smaller : goal.steps-smaller
steps-smaller c =
    let e : length c.spread-in-Some.new.self.steps.items ≡ length c.steps.walk.steps.items + 1 = ap length (c.in_ok-spread-2.ensures.steps ∙ c.in_ok-push.ensures.items) ∙ length_push c.steps.walk.steps.items c.in-Some.step in
    let few = few_steps c.args.tree.now _ _ _ (walk_goes_at c.args.tree.now _ _ _ _ _ _ c.in-Some.ensures.items c.in_ok-push.ensures.items c.steps.invariant.walk) in
    let made : length c.push.new.self.items ≡ length c.steps.walk.steps.items + 1 = ap length c.in_ok-push.ensures.items ∙ length_push c.steps.walk.steps.items c.in-Some.step in
    omega (arith, few)

pub returns : goal.returns
returns c = walk_ends c.args.tree.now _ _ _ (let none = c.in_default.ensures.variant.1 in grind (arith, none)) c.steps.invariant.walk c.steps.invariant.spread
