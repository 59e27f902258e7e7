use Rattle.std.proofs.Common.{refl}
use Rattle.liberty_groups.proofs.TreeLaws.{rolled, opened}
use Rattle.liberty_groups.proofs.group.Group.shrink_groups.Goals as goal

pub returns : goal.returns
returns c = rw (rolled, opened c.args.self.now, c.shrink_to_fit.ensures.items) refl
