-- Capacitance to ground, counted charge by charge.
use Rattle.std.specs.Prelude.{◌≡◌, ℕ, ◌<◌, ℤ, pos, ◌+ℤ◌, ◌≤ℤ◌, List, length, drop}
use Rattle.std.specs.List.{slice_index_or}
use Rattle.link_rules.specs.Wires.{Charge, sum_at}

-- at each of so many nodes the capacitance that is counted already, with that of the charges from number i on, is the
-- whole
pub record IsGathered (charges : List Charge) (nodes i : ℕ) (ground : List ℤ) : Type 0 where
  pub count : length ground ≡ nodes
  pub natural : (k : ℕ) → pos 0 ≤ℤ slice_index_or ground k (pos 0)
  pub rest : (k : ℕ) → k < nodes
      → slice_index_or ground k (pos 0) +ℤ sum_at (drop i charges) k ≡ sum_at charges k
