-- A sum over the coefficients of a sink, one at a time.
use Rattle.std.specs.Prelude.{◌≡◌, ℕ, ◌+◌, ◌*◌, ◌≤◌, ◌^◌, List, drop}
use Rattle.std.specs.Int.RustNames.{unsigned_abs}
use Rattle.std.specs.List.{sum_by}
use Rattle.elmore_tree.specs.Sums.{SinkSums, quarters}

-- with the coefficients from number i on the sum is the whole, and it fits with each of them twelve times
pub record IsQuarterSum (s : SinkSums) (factors : List ℕ) (i sum : ℕ) : Type 0 where
  pub rest : sum + quarters (drop i factors) (drop i s.coefs) ≡ 4 * unsigned_abs s.base + quarters factors s.coefs
  pub most : sum + 12 * sum_by unsigned_abs (drop i s.coefs) ≤ 12 * 2 ^ 102
