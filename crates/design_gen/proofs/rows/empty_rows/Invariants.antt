use Rattle.std.proofs.Common.{◌≡◌, [], length}
use Rattle.std.specs.List.{All}
use Rattle.design_gen.proofs.rows.empty_rows.Given as goal

abbrev pub invariant-loop-i : goal.invariant-loop-i
invariant-loop-i g l = record {
  count : length l.rows.items ≡ l.i;
  empty : All (λ r. r.items ≡ []) l.rows.items;
}
