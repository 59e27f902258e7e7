use Rattle.std.proofs.Common.{◌≡◌, ◌++◌, length, option_map}
use Rattle.hier_flatten.proofs.TopsLaws.{tops_in, found_so_far}
use Rattle.hier_flatten.proofs.tops.only_top.Given as goal

abbrev pub invariant-modules : goal.invariant-modules
invariant-modules l = tops_in l.modules l.modules ≡ found_so_far (option_map (λ m. m.now) l.top) ++ tops_in l.modules l.rest

abbrev pub decreases-modules : goal.decreases-modules
decreases-modules l = length l.rest
