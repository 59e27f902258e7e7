-- Pairs of coupled nets, the lesser number first.
use Rattle.std.specs.Prelude.{◌≡◌, ◌≢◌, ℕ, nat_lt, List, Some, if◌then◌else◌}
use Rattle.std.specs.List.{All, slice_get}
use Rattle.xt_model.specs.declared.net.Net.{Net}

-- the two numbers, the lesser first
abbrev pub pair_of : ℕ → ℕ → ℕ × ℕ
pair_of a b = if nat_lt a b then (a, b) else (b, a)

-- no net couples to itself
abbrev pub CoupleToOthers : List Net → Type 0
CoupleToOthers nets = (i : ℕ) (n : Net) → slice_get nets i ≡ Some n → All (λ k. k.to.0 ≢ i) n.couplings
