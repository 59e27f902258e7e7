-- A design that keeps all limits passes none, and its report has the two fixpoints between which every fixpoint lies,
-- and the greatest of which holds all consistent transitions.
use Rattle.xt_model.specs.Parts.{Parts}
use Rattle.xt_model.specs.Sound.{IsSound}
use Rattle.std.specs.Prelude.{List, ℤ}
use Rattle.xt_model.specs.declared.quad.Pair.{Pair}
use Rattle.xt_model.specs.Levels.{AreLevelled}
use Rattle.xt_model.specs.declared.direction.Direction.TheVariants.{Narrow}
use Rattle.xt_model.specs.Assign.{assigned}
use Rattle.xt_meaning.specs.Barrier.{IsFittingStart, IsWithinEnvelope}
use Rattle.xt_meaning.specs.Envelope.{IsEnvelope, IsAccepted}
use Rattle.xt_meaning.specs.Operator.{step}
use Rattle.run_laws.proofs.Hulls.{within_greatest as consistent_within}
use Rattle.xt_meaning.specs.Fixpoint.{IsContained, IsFixpoint, IsLeastFixpoint, IsGreatestFixpoint}
use Rattle.xt_meaning.proofs.Growth.{wired}
use Rattle.xt_meaning.proofs.Starts.{envelope_fits}
use Rattle.xt_meaning.proofs.Widest.{envelope_contains}
use Rattle.xt_meaning.proofs.Extremes.{fixpoint_closed, least_within, within_greatest}
use Rattle.xt_meaning.proofs.Steps.{contained_narrow}
use Rattle.envelope.specs.declared.fault.What.{What}
use Rattle.envelope.proofs.Turns.{none_stopped}
use Rattle.call_meaning.specs.Eco.{AreFound, HasEnvelope}
use Rattle.call_meaning.specs.Outcome.{AreBounds, KeepsLimits, IsPassed}
use Rattle.call_meaning.specs.declared.refusal.PassedLimit.{PassedLimit}

pub within_or_passed : (d : Parts) (passed : PassedLimit What ℤ) → IsSound d → KeepsLimits d → IsPassed d passed → ⊥
within_or_passed d passed sound within p = none_stopped d p.number passed.what passed.value within.envelope sound p.first within.widest within.accepted

pub are_bounds : (d : Parts) (top low high : List Pair) → IsSound d → AreLevelled d.nets → IsEnvelope d top → IsLeastFixpoint d low → IsGreatestFixpoint d high
    → AreBounds d low high
are_bounds d top low high sound levelled envelope least greatest = record {
  consistent = λ xs c. consistent_within d levelled.0 top high xs sound levelled.1 envelope greatest c;
  above = λ v f. least_within d low v least f;
  below = λ v f. within_greatest d high v greatest f;
}

-- a fixpoint lies within an envelope that keeps the limits
pub fixpoint_within : (d : Parts) (top v : List Pair) → IsEnvelope d top → IsAccepted d top
    → ((w : List Pair) → IsContained (assigned w) (step d w) → IsContained (assigned w) (assigned top)) → IsFixpoint d v → IsWithinEnvelope d v
fixpoint_within d top v envelope accepted contains f = record {
  top = top;
  envelope = envelope;
  accepted = accepted;
  contained = contains v (contained_narrow (step d v) (assigned v) (fixpoint_closed Narrow d v f));
}

-- ---- what an envelope that keeps the limits is good for
pub keeps_within : (d : Parts) (top : List Pair) → HasEnvelope d top → KeepsLimits d
keeps_within d top h = record { envelope = top; widest = h.envelope.widest; accepted = h.accepted }

pub narrows_from : (d : Parts) (top : List Pair) → IsSound d → AreLevelled d.nets → HasEnvelope d top → IsFittingStart Narrow d top
narrows_from d top sound levelled h = envelope_fits d levelled.0 top sound levelled.1 h.envelope h.accepted

pub found_within : (d : Parts) (top low high : List Pair) → IsSound d → AreLevelled d.nets → HasEnvelope d top → IsLeastFixpoint d low → IsGreatestFixpoint d high → AreFound d low high
found_within d top low high sound levelled h least greatest =
    let within : (v : List Pair) → IsFixpoint d v → IsWithinEnvelope d v =
    λ v f. fixpoint_within d top v h.envelope h.accepted (λ w fits. envelope_contains d levelled.0 (assigned w) top (wired d sound) levelled.1 h.envelope.widest fits) f in
    record {
      keeps = keeps_within d top h;
      least = least;
      greatest = greatest;
      low_within = within low least.fixpoint;
      high_within = within high greatest.fixpoint;
      bounds = are_bounds d top low high sound levelled h.envelope least greatest;
    }
