-- Nets that a round did not move, or of which it did not move what decides them.
use Rattle.std.specs.Prelude.{◌≡◌, ℕ, ◌<◌, Bool, false, IsTrue, List, length, slice_index}
use Rattle.std.specs.List.{slice_index_or}
use Rattle.xt_model.specs.declared.edge.Edge.{Edge}
use Rattle.xt_model.specs.declared.quad.Pair.{Pair}
use Rattle.xt_model.specs.Parts.{Parts}
use Rattle.xt_model.specs.Assign.{assigned, words_of}
use Rattle.xt_meaning.specs.Fixpoint.{IsWindows}
use Rattle.xt_meaning.specs.Words.{bound_in}
use Rattle.net_eval.specs.Closing.{IsSteadyAt}
use Rattle.chaos_core.specs.Alike.{AreDecidedAlike}
use Rattle.chaos_core.specs.Spared.{IsInputAlike}
use Rattle.chaos_core.specs.Tasks.{word_to_load}

-- marks of nets, each of which has the same windows in both lists
pub record AreUnmoved (v w : List Pair) (marks : List Bool) : Type 0 where
  pub count : length marks ≡ length v
  pub same : (net : ℕ) (e : Edge) → IsTrue (slice_index_or marks net false) → assigned v net e ≡ assigned w net e

-- marks of nets, each of which has the same windows in both lists, and the same overlap answers at its couplings
abbrev pub AreAlike : Parts → List Pair → List Pair → List Bool → Type 0
AreAlike d v w marks =
    (net : ℕ) → IsTrue (slice_index_or marks net false) → IsInputAlike d (assigned v) (assigned w) net

-- marks of the nets of a design, where what decides each is the same in both lists
pub record AreDecided (d : Parts) (v w : List Pair) (marks : List Bool) : Type 0 where
  pub count : length marks ≡ length d.nets
  pub alike : (net : ℕ) → IsTrue (slice_index_or marks net false) → AreDecidedAlike d (assigned v) (assigned w) net

-- windows, and a mark for each net: the operator gives the windows of each net back that is marked
pub record IsLook (d : Parts) (v : List Pair) (marks : List Bool) : Type 0 where
  pub windows : IsWindows d v
  pub count : length marks ≡ length d.nets
  pub steady : (net : ℕ) → net < length d.nets → IsTrue (slice_index_or marks net false) → IsSteadyAt d v net

-- the numbers loaded for a read list are those of its windows
abbrev pub AreNumbersOf : List Pair → List ℕ → List ℕ → Type 0
AreNumbersOf v reads numbers = (place : ℕ) → place < length numbers
    → bound_in (slice_index numbers place) ≡ words_of (assigned v) (word_to_load reads place)
