use Rattle.std.proofs.Common.{refl}
use Rattle.liberty_groups.proofs.TreeLaws.{rolled}
use Rattle.liberty_groups.proofs.group.Group.new.Goals as goal

pub returns : goal.returns
returns c = rw (rolled, c.none.ensures, c.new.ensures.items) refl
