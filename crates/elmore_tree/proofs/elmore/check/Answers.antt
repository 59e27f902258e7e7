use Rattle.elmore_tree.proofs.UniqueLaws.{accepted_is}
use Rattle.elmore_tree.proofs.elmore.check.Goals as goal

pub returns-clause-ok : goal.returns-clause-ok
returns-clause-ok c = accepted_is c.args.tree.now c.in_ok-tree_steps.field-0.items c.in_ok-tree_steps.ensures.ok
