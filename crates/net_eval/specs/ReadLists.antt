-- The read lists of a design, as lists of nets.
use Rattle.std.specs.Prelude.{◌≡◌, ℕ, ◌<◌, List, [], ◌∷◌, ◌++◌, length, map, Some}
use Rattle.std.specs.List.{All, Contains, slice_get, slice_index_or}
use Rattle.xt_model.specs.declared.net.NetId.{NetId}
use Rattle.xt_model.specs.declared.net.TimingArc.{TimingArc}
use Rattle.xt_model.specs.declared.net.Net.{Net}
use Rattle.xt_model.specs.Parts.{Parts}
use Rattle.xt_model.specs.Sound.{IsSound}
use Rattle.xt_model.specs.Levels.{AreOrdered}
use Rattle.xt_meaning.specs.Reads.{IsAround, LooksAt, IsReadList}

-- the numbers of nets
abbrev pub ids : List NetId → List ℕ
ids nets = map (λ n. n.0) nets

-- the list of net number n
abbrev pub reads_of : List (List NetId) → ℕ → List NetId
reads_of lists n = slice_index_or lists n []

-- a read list for each net of a design, which is sound and whose nets have an order
pub record AreReadLists (d : Parts) (lists : List (List NetId)) : Type 0 where
  pub sound : IsSound d
  pub ordered : AreOrdered d.nets
  pub count : length lists ≡ length d.nets
  pub each : (n : ℕ) → n < length d.nets → IsReadList d n (ids (reads_of lists n))

-- the number of a net, and those in its coupling list
abbrev pub around : ℕ → Net → List ℕ
around n net = n ∷ map (λ k. k.to.0) net.couplings

-- numbers to which those around the input net of an arc were appended
abbrev pub HasGained : Parts → TimingArc → List ℕ → List ℕ → Type 0
HasGained d arc before after =
    (input : Net) × (slice_get d.nets arc.from.0 ≡ Some input) × (after ≡ before ++ around arc.from.0 input)

-- only nets that the operator looks at for net number n, and where it has an arc, all that is around it and around
-- the inputs of its first `turned` arcs
pub record HasLooked (d : Parts) (n : ℕ) (net : Net) (numbers : List ℕ) (turned : ℕ) : Type 0 where
  pub looked : All (LooksAt d n) numbers
  pub own : (m : ℕ) → 0 < length net.arcs → IsAround d.nets n m → Contains numbers m
  pub inputs : (i m : ℕ) (a : TimingArc) → i < turned → slice_get net.arcs i ≡ Some a → IsAround d.nets a.from.0 m
      → Contains numbers m
