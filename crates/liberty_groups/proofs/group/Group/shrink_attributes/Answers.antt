use Rattle.std.proofs.Common.{refl}
use Rattle.liberty_groups.proofs.TreeLaws.{rolled, opened}
use Rattle.liberty_groups.proofs.group.Group.shrink_attributes.Goals as goal

pub returns : goal.returns
returns c = rw (rolled, opened c.args.self.now, c.shrink.ensures) refl
