-- The law that ties transitions which are under way together to the peaks of noise.
use Rattle.std.specs.Prelude.{◌≡◌, ℕ, ◌⊎◌, ℤ, pos, ◌-ℤ◌, ◌≤ℤ◌, List, [], ◌∷◌, Some}
use Rattle.std.specs.List.{Any, Contains, slice_get}
use Rattle.xt_model.specs.declared.edge.Edge.{Edge}
use Rattle.xt_model.specs.declared.quad.Pair.{Pair}
use Rattle.xt_model.specs.declared.net.Coupling.{Coupling}
use Rattle.xt_model.specs.declared.net.Net.{Net}
use Rattle.xt_model.specs.Parts.{Parts}
use Rattle.xt_model.specs.Sound.{IsSound}
use Rattle.xt_model.specs.Levels.{AreLevels}
use Rattle.xt_model.specs.Assign.{assigned}
use Rattle.xt_meaning.specs.Overlap.{Meet}
use Rattle.xt_meaning.specs.Fixpoint.{IsGreatestFixpoint}
use Rattle.xt_meaning.specs.Envelope.{IsEnvelope}
use Rattle.run_laws.specs.Transitions.{Transition, starts, ends, AreConsistent}
use Rattle.glitch_noise.specs.declared.peak.Peak.{Peak}
use Rattle.glitch_noise.specs.Peaks.{ArePeaks}

-- a transition of the list at this net and edge is under way at a moment; with a clock period, at the same one of any
-- period
pub record IsUnderWayAt (d : Parts) (xs : List Transition) (net : ℕ) (edge : Edge) (moment : ℤ) : Type 0 where
  pub x : Transition
  pub listed : Contains xs x
  pub at_net : x.net ≡ net
  pub at_edge : x.edge ≡ edge
  pub meets : Meet d.period (starts x) (ends x) moment moment

-- some of these couplings, at each of which the aggressor's edge is under way at this moment, have this capacitance
abbrev pub Switch : Parts → List Transition → Edge → ℤ → List Coupling → ℤ → Type 0
Switch d xs e moment [] cap = cap ≡ pos 0
Switch d xs e moment (k ∷ more) cap =
    Switch d xs e moment more cap
    ⊎ (IsUnderWayAt d xs k.to.0 e moment × Switch d xs e moment more (cap -ℤ k.cap))

-- of this net and edge of its aggressors, and of at least this capacitance
pub record IsAtLeast (net : ℕ) (edge : Edge) (cap : ℤ) (p : Peak) : Type 0 where
  pub of_net : p.victim.0 ≡ net
  pub of_edge : p.edge ≡ edge
  pub sum : cap ≤ℤ p.sum

-- where words can hold the envelope, the couplings of a net that switch at one moment in a consistent list have no more
-- capacitance than the peak in the greatest windows
abbrev pub SwitchingHasPeaks : Type 0
SwitchingHasPeaks = (d : Parts) (levels : List ℕ) (top high : List Pair) (xs : List Transition) (n : ℕ) (net : Net)
    (e : Edge) (moment cap : ℤ) (ps : List Peak) → IsSound d → AreLevels d.nets levels → IsEnvelope d top
    → IsGreatestFixpoint d high → AreConsistent d xs → slice_get d.nets n ≡ Some net
    → Switch d xs e moment net.couplings cap → pos 1 ≤ℤ cap → ArePeaks d (assigned high) 0 d.nets ps
    → Any (IsAtLeast n e cap) ps
