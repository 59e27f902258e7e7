-- The words of a net.
use Rattle.std.specs.Prelude.{◌≡◌, ℕ, ◌+◌, ◌*◌, ◌<◌, List}
use Rattle.xt_model.specs.declared.quad.Pair.{Pair}
use Rattle.xt_meaning.specs.Words.{number_at, number_for}
use Rattle.chaos_core.specs.Tasks.{bound_at}

-- the words of a net are those of a pair
abbrev pub HoldPair : List ℕ → ℕ → Pair → Type 0
HoldPair words net pair = (i : ℕ) → i < 8 → number_at words (8 * net + i) ≡ number_for (bound_at pair i)
