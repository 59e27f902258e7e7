-- Which windows the operator looks at for a net.
use Rattle.std.specs.Prelude.{◌≡◌, ℕ, ◌<◌, ◌⊎◌, ◌↔◌, List, length, IfSome}
use Rattle.std.specs.List.{All, Contains, slice_get, slice_index}
use Rattle.xt_model.specs.declared.edge.Edge.{Edge}
use Rattle.xt_model.specs.declared.net.Coupling.{Coupling}
use Rattle.xt_model.specs.declared.net.TimingArc.{TimingArc}
use Rattle.xt_model.specs.declared.net.Net.{Net}
use Rattle.xt_model.specs.Quads.{IsWithin}
use Rattle.xt_model.specs.Levels.{Reads, CouplesTo}
use Rattle.xt_model.specs.Parts.{Parts}
use Rattle.xt_model.specs.Assign.{Assignment}

-- R holds of the net at the other end of each coupling
abbrev pub HoldsOfEnds : (ℕ → Type 0) → List Coupling → Type 0
HoldsOfEnds R ks = All (λ k. R k.to.0) ks

-- R holds of the nets that an arc of net number n, which is `net`, looks at: of net n, of the net that the
-- arc comes from, and of those that are coupled to either
pub record HoldsOfArcReads (R : ℕ → Type 0) (d : Parts) (n : ℕ) (net : Net) (a : TimingArc) : Type 0 where
  pub own : R n
  pub aggressors : HoldsOfEnds R net.couplings
  pub from : R a.from.0
  pub from_aggressors : IfSome (slice_get d.nets a.from.0) (λ m. HoldsOfEnds R m.couplings)

-- R holds of every net that the operator looks at for net number n; for a source it looks at none
pub record HoldsOfReads (R : ℕ → Type 0) (d : Parts) (n : ℕ) : Type 0 where
  pub arcs : IfSome (slice_get d.nets n) (λ net. All (HoldsOfArcReads R d n net) net.arcs)

-- W lies within V at the nets of which R holds
pub record IsContainedAt (R : ℕ → Type 0) (W V : Assignment) : Type 0 where
  pub each : (n : ℕ) (e : Edge) → R n → IsWithin (W n e) (V n e)

-- net m is net n, or stands in its coupling list
abbrev pub IsAround : List Net → ℕ → ℕ → Type 0
IsAround nets n m = (m ≡ n) ⊎ CouplesTo nets n m

-- the operator looks at net m for net n: net n has an arc, and m is net n or the input net of that arc, or stands
-- in the coupling list of one of these; for a net without arcs it looks at none
abbrev pub LooksAt : Parts → ℕ → ℕ → Type 0
LooksAt d n m = (input : ℕ) × Reads d.nets n input × (IsAround d.nets n m ⊎ IsAround d.nets input m)

-- the read list of net n: every net that the operator looks at for it, in order of number, each once
pub record IsReadList (d : Parts) (n : ℕ) (reads : List ℕ) : Type 0 where
  pub members : (m : ℕ) → Contains reads m ↔ LooksAt d n m
  pub rising : (i j : ℕ) → i < j → j < length reads → slice_index reads i < slice_index reads j
