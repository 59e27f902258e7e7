use Rattle.std.proofs.Common.{◌≡◌, ℕ, length, []}
use Rattle.elmore_tree.specs.Walks.{AreRowsOf, row_of}
use Rattle.elmore_tree.proofs.walk.resistors_around.Given as goal

abbrev pub invariant-loop-node : goal.invariant-loop-node
invariant-loop-node l = record {
  count : length l.rows.items ≡ l.node;
  none : (k : ℕ) → row_of l.rows.items k ≡ [];
}

abbrev pub invariant-loop-number : goal.invariant-loop-number
invariant-loop-number l = AreRowsOf l.tree l.number l.rows.items
