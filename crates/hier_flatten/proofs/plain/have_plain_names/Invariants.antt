use Rattle.std.proofs.Common.{◌≡◌, length}
use Rattle.std.specs.List.{list_all}
use Rattle.hier_flatten.specs.Names.{has_plain_names}
use Rattle.hier_flatten.proofs.plain.have_plain_names.Given as goal

abbrev pub invariant-modules : goal.invariant-modules
invariant-modules l = list_all has_plain_names l.rest ≡ list_all has_plain_names l.modules

abbrev pub decreases-modules : goal.decreases-modules
decreases-modules l = length l.rest
