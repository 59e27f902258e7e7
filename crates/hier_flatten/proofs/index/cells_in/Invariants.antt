use Rattle.std.proofs.Common.{◌≡◌, ◌+◌, length}
use Rattle.hier_flatten.specs.Hierarchy.{cells_in}
use Rattle.hier_flatten.proofs.index.cells_in.Given as goal

abbrev pub invariant-links : goal.invariant-links
invariant-links l = record {
  counted : l.count + cells_in l.rest ≡ cells_in l.links;
  within : l.count + length l.rest ≡ length l.links;
}

abbrev pub decreases-links : goal.decreases-links
decreases-links l = length l.rest
