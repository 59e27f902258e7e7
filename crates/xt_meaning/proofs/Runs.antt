-- Steps of a run from a fitting start, and how its rounds end.
use Rattle.std.proofs.Common.{◌<◌, ◌⊎◌, inl, inr, sym, subst, List}
use Rattle.xt_model.specs.declared.direction.Direction.{Direction}
use Rattle.xt_model.specs.declared.direction.Direction.TheVariants.{Widen, Narrow}
use Rattle.xt_model.specs.declared.quad.Pair.{Pair}
use Rattle.xt_model.specs.Parts.{Parts}
use Rattle.xt_model.specs.Sound.{IsSound}
use Rattle.xt_model.specs.Assign.{Assignment, assigned}
use Rattle.xt_meaning.specs.Operator.{step}
use Rattle.xt_meaning.specs.Fixpoint.{IsWindows, IsContained, IsFixpoint}
use Rattle.xt_meaning.specs.Envelope.{IsEnvelope}
use Rattle.xt_meaning.specs.Barrier.{NoFurther, Respects, IsFittingStart}
use Rattle.xt_meaning.specs.Laws.{IsStep}
use Rattle.xt_meaning.proofs.Growth.{wired}
use Rattle.xt_meaning.proofs.Monotone.{contained_trans}
use Rattle.xt_meaning.proofs.Steps.{respects_after, fits_after, contained_narrow}
use Rattle.xt_meaning.proofs.Extremes.{fixpoint_from_closed}
use Rattle.xt_meaning.proofs.Limits.{respecting_within}
use Rattle.xt_meaning.specs.Measure.{room}
use Rattle.xt_meaning.proofs.Measure.{room_less}

-- a step leads to windows within the envelope
pub within_after : (way : Direction) (d : Parts) (top : List Pair) (before after : Assignment) → IsSound d → IsEnvelope d top → Respects way d after → NoFurther way before after
    → IsContained before (assigned top) → IsContained after (assigned top)
within_after Widen d top before after s env r o c = respecting_within d top after s env r
within_after Narrow d top before after s env r o c = contained_trans after before (assigned top) (contained_narrow before after o) c

pub step_fits : (way : Direction) (d : Parts) (before after : List Pair) → IsSound d → IsFittingStart way d before → IsWindows d after → IsStep way d (assigned before) (assigned after)
    → IsFittingStart way d after
step_fits way d before after s start w t =
    let r = respects_after way d (assigned before) (assigned after) (wired d s) start.respects t in
    record {
      windows = w;
      respects = r;
      fits = fits_after way d (assigned before) (assigned after) (wired d s) t;
      within = record {
        top = start.within.top;
        envelope = start.within.envelope;
        accepted = start.within.accepted;
        contained = within_after way d start.within.top (assigned before) (assigned after) s start.within.envelope r t.onward start.within.contained;
      };
    }

-- a round that goes at least as far as the operator has less room left, unless it began at a fixpoint
pub round_less : (way : Direction) (d : Parts) (before after : List Pair) → IsFittingStart way d before → IsWindows d after → NoFurther way (assigned before) (assigned after)
    → NoFurther way (step d before) (assigned after) → IsFixpoint d before ⊎ (room way after < room way before)
round_less way d before after start w onward past = elim (room_less way d before after start.windows w onward) [
  | inl e ↦
      let P : List Pair → Type 0 = λ v. NoFurther way (step d before) (assigned v) in
      inl (fixpoint_from_closed way d before start.windows start.fits (subst P (sym e) past))
  | inr less ↦ inr less
]
