use Rattle.std.proofs.Common.{refl}
use Rattle.std.proofs.lemmas.List.{map-append}
use Rattle.liberty_groups.proofs.TreeLaws.{rolled, opened, forest_push}
use Rattle.liberty_groups.proofs.group.Group.add_group.Goals as goal

pub returns : goal.returns
returns c = rw (rolled, opened c.args.self.now, c.in_ok-push_group.ensures, map-append, forest_push, c.shrink_groups.ensures, c.shrink_attributes.ensures) refl
