use Rattle.std.proofs.Common.{ℕ, ◌<◌, []}
use Rattle.hier_flatten.specs.Hierarchy.{IsFinite}
use Rattle.hier_flatten.specs.Search.{IsSearch}
use Rattle.hier_flatten.proofs.circle.contains_itself.Given as goal

abbrev pub invariant-loop-number : goal.invariant-loop-number
invariant-loop-number l = record {
  search : IsSearch l.index l.marks.items [];
  finite : (k : ℕ) → k < l.number → IsFinite l.index k;
}
