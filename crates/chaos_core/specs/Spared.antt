-- Windows of two times, as those of two lists of numbers loaded for one read list, and when the operator makes the same
-- of a net of both.
use Rattle.std.specs.Prelude.{◌≡◌, ℕ, List, IfSome}
use Rattle.std.specs.List.{All, slice_get}
use Rattle.xt_model.specs.declared.edge.Edge.{Edge}
use Rattle.xt_model.specs.Parts.{Parts}
use Rattle.xt_model.specs.Assign.{Assignment, quads_of}
use Rattle.xt_meaning.specs.Reads.{HoldsOfEnds}
use Rattle.chaos_core.specs.Tasks.{loaded_bounds}
use Rattle.chaos_core.specs.Alike.{HaveSameAnswers}

-- the windows that the numbers loaded for a read list stand for
abbrev pub loaded_quads : List ℕ → List ℕ → Assignment
loaded_quads reads numbers = quads_of (loaded_bounds reads numbers)

-- R holds of net m and of the nets of its couplings
pub record AreRead (d : Parts) (R : ℕ → Type 0) (m : ℕ) : Type 0 where
  pub own : R m
  pub ends : IfSome (slice_get d.nets m) (λ net. HoldsOfEnds R net.couplings)

-- net m has the same windows in two assignments
abbrev pub IsStill : Assignment → Assignment → ℕ → Type 0
IsStill W V m = (e : Edge) → W m e ≡ V m e

-- and the same overlap answers at its couplings
abbrev pub HasAnswersAlike : Parts → Assignment → Assignment → ℕ → Type 0
HasAnswersAlike d W V m = IfSome (slice_get d.nets m) (λ net. HaveSameAnswers d.period W V m net.couplings)

pub record IsInputAlike (d : Parts) (W V : Assignment) (m : ℕ) : Type 0 where
  pub windows : IsStill W V m
  pub answers : HasAnswersAlike d W V m

-- and so for the input net of each arc of net n
abbrev pub AreInputsAlike : Parts → Assignment → Assignment → ℕ → Type 0
AreInputsAlike d W V n = IfSome (slice_get d.nets n) (λ net. All (λ a. IsInputAlike d W V a.from.0) net.arcs)

-- the overlap answers at the couplings of net n are the same, where it has arcs
abbrev pub IsOwnAlike : Parts → Assignment → Assignment → ℕ → Type 0
IsOwnAlike d W V n =
    IfSome (slice_get d.nets n) (λ net. All (λ a. HaveSameAnswers d.period W V n net.couplings) net.arcs)
