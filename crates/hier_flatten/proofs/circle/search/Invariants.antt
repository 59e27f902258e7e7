use Rattle.std.proofs.Common.{◌≡◌, Some}
use Rattle.std.specs.List.{slice_get}
use Rattle.hier_flatten.specs.declared.circle.Mark.TheVariants.{New}
use Rattle.hier_flatten.specs.Search.{IsSearch, work}
use Rattle.hier_flatten.proofs.circle.search.Given as goal

abbrev pub invariant-places : goal.invariant-places
invariant-places l = record {
  search : IsSearch l.index l.marks l.stack;
  met : slice_get l.marks l.number ≡ Some New → ⊥;
}

abbrev pub decreases-places : goal.decreases-places
decreases-places l = work l.index l.marks l.stack
