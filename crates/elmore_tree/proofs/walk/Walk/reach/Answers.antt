use Rattle.elmore_tree.proofs.Walking.{walk_reaches}
use Rattle.elmore_tree.proofs.Rows.{unmarked_at}
use Rattle.elmore_tree.proofs.walk.Walk.reach.Goals as goal

pub returns-in_ok-push-clause-walk : goal.returns-in_ok-push-clause-walk
returns-in_ok-push-clause-walk c = rw c.in_ok-push.ensures.ok (walk_reaches _ _ _ _ _ c.requires.walk c.requires.joins c.requires.there c.requires.from c.requires.last (unmarked_at c.args.self.now.reached.items c.args.step.to _ c.index.ensures c.if-not-index.true))
