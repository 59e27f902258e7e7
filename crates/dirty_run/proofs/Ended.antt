-- Where a run ends: the windows in its closed words.
use Rattle.std.proofs.Common.{◌≡◌, ℕ, ◌≤◌, sym, subst, List, arith}
use Rattle.std.specs.List.{All}
use Rattle.xt_model.specs.declared.direction.Direction.{Direction}
use Rattle.xt_model.specs.declared.quad.Pair.{Pair}
use Rattle.xt_model.specs.Quads.{IsPairInRange}
use Rattle.xt_model.specs.Parts.{Parts}
use Rattle.xt_meaning.specs.Barrier.{IsFittingStart}
use Rattle.xt_meaning.specs.Laws.{IsExtremeFixpoint}
use Rattle.xt_meaning.specs.Words.{numbers_of, top_number}
use Rattle.chaos_core.specs.declared.setting.Setting.{Setting}
use Rattle.chaos_core.specs.Memories.{AreKept}
use Rattle.chaos_core.specs.Rounds.{AreClosed}
use Rattle.chaos_core.proofs.Kept.{words_range}
use Rattle.chaos_core.proofs.Starting.{kept_fits}
use Rattle.chaos_core.proofs.Settling.{closed_extreme, fits_under}

-- kept words are in the range of bounds
pub range_found : (a : Setting) (words found : List ℕ) → AreKept a words → found ≡ words → All (λ n. n ≤ top_number) found
range_found a words found kept is = subst (All (λ n. n ≤ top_number)) (sym is) (words_range (record { setting = a; words = words; next = 0 }) (record { words = kept; few = omega arith }))

pub ends_fit : (a : Setting) (d : Parts) (way : Direction) (words : List ℕ) (windows : List Pair) → a.design ≡ d → a.way ≡ way → AreKept a words → numbers_of windows ≡ words → All IsPairInRange windows → IsFittingStart way d windows
ends_fit a d way words windows design on kept is range = fits_under a a d way windows (λ i. a) design on (kept_fits a words windows kept is range)

pub ends_extreme : (a : Setting) (d : Parts) (way : Direction) (words : List ℕ) (windows : List Pair) → a.design ≡ d → a.way ≡ way → AreKept a words → numbers_of windows ≡ words → All IsPairInRange windows → AreClosed d words
    → IsExtremeFixpoint way d windows
ends_extreme a d way words windows design on kept is range closed = closed_extreme way d words windows (ends_fit a d way words windows design on kept is range) is closed
