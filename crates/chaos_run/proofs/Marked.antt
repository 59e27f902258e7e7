-- A net that has a mark is one of the marked nets.
use Rattle.std.proofs.Common.{ℕ, ◌<◌, inl, inr, subst, List, length, get_or, false}
use Rattle.std.specs.Prelude.{Bool, IsTrue}
use Rattle.std.proofs.lemmas.Bool.{cases_lt}
use Rattle.std.proofs.lemmas.List.{get_or_past}
use Rattle.chaos_core.proofs.Places.{no_lie}

pub marked_there : (marks : List Bool) (net : ℕ) → IsTrue (get_or marks net false) → net < length marks
marked_there marks net marked = elim (cases_lt net (length marks)) [
  | inl p ↦ p
  | inr past ↦ absurd (no_lie (subst IsTrue (get_or_past marks net false past) marked))
]
