use Rattle.std.proofs.Common.{length}
use Rattle.link_index.specs.Kept.{IsKept}
use Rattle.link_index.proofs.PlaceLaws.{ZippedTo}
use Rattle.link_index.proofs.places.all_kept.Given as goal

abbrev pub invariant-cells : goal.invariant-cells
invariant-cells l = ZippedTo IsKept l.cells l.kept.items l.rest

abbrev pub decreases-cells : goal.decreases-cells
decreases-cells l = length l.rest
