-- The law that ties transitions which are under way together to the guilty couplings.
use Rattle.std.specs.Prelude.{◌≡◌, ◌≢◌, ℕ, List, Some}
use Rattle.std.specs.List.{Any, Contains, slice_get}
use Rattle.xt_model.specs.declared.edge.Edge.{Edge}
use Rattle.xt_model.specs.declared.quad.Pair.{Pair}
use Rattle.xt_model.specs.declared.net.Coupling.{Coupling}
use Rattle.xt_model.specs.declared.net.Net.{Net}
use Rattle.xt_model.specs.Quads.{other_edge}
use Rattle.xt_model.specs.Parts.{Parts}
use Rattle.xt_model.specs.Sound.{IsSound}
use Rattle.xt_model.specs.Levels.{AreLevels}
use Rattle.xt_meaning.specs.Fixpoint.{IsGreatestFixpoint}
use Rattle.xt_meaning.specs.Envelope.{IsEnvelope}
use Rattle.run_laws.specs.Transitions.{Transition, MeetsOneAt, AreConsistent}
use Rattle.aggressor_report.specs.declared.mark.Mark.TheVariants.{No}
use Rattle.aggressor_report.specs.declared.guilt.Guilt.{Guilt}
use Rattle.aggressor_report.specs.Guilt.{guilty}

-- an entry of this edge of this net and the coupling of this number in its list; edge f of the aggressor can matter by
-- it: the same edge as one that can speed the net up, the other edge as one that can slow it down
pub record IsMarked (net : ℕ) (edge : Edge) (number : ℕ) (f : Edge) (g : Guilt) : Type 0 where
  pub of_net : g.victim.0 ≡ net
  pub of_edge : g.edge ≡ edge
  pub of_coupling : g.coupling ≡ number
  pub fast : f ≡ edge → g.fast ≢ No
  pub slow : f ≡ other_edge edge → g.slow ≢ No

-- where words can hold the envelope, and a transition of a consistent list is under way together with one of edge f of
-- a net that its own couples with, an entry tells of it, whatever the least windows are
abbrev pub MeetingsAreMarked : Type 0
MeetingsAreMarked = (d : Parts) (levels : List ℕ) (top low high : List Pair) (xs : List Transition) (x : Transition)
    (net : Net) (number : ℕ) (k : Coupling) (f : Edge) → IsSound d → AreLevels d.nets levels → IsEnvelope d top
    → IsGreatestFixpoint d high → AreConsistent d xs → Contains xs x → slice_get d.nets x.net ≡ Some net
    → slice_get net.couplings number ≡ Some k → MeetsOneAt d xs x k.to.0 f
    → Any (IsMarked x.net x.edge number f) (guilty d low high)
