-- Fixpoints lie within the envelope.
use Rattle.std.proofs.Common.{◌≡◌, ℕ, sym, subst, List}
use Rattle.xt_model.specs.declared.edge.Edge.{Edge}
use Rattle.xt_model.specs.declared.quad.Quad.{Quad}
use Rattle.xt_model.specs.declared.quad.Pair.{Pair}
use Rattle.xt_model.specs.Quads.{IsWithin}
use Rattle.xt_model.specs.Levels.{AreLevelled}
use Rattle.xt_model.specs.Parts.{Parts}
use Rattle.xt_model.specs.Sound.{IsSound}
use Rattle.xt_model.specs.Assign.{assigned}
use Rattle.xt_meaning.specs.Operator.{operator}
use Rattle.xt_meaning.specs.Fixpoint.{IsContained, IsFixpoint}
use Rattle.xt_meaning.specs.Barrier.{IsWithinEnvelope}
use Rattle.xt_meaning.proofs.Growth.{wired}
use Rattle.xt_meaning.proofs.Order.{within_refl}
use Rattle.xt_meaning.proofs.Widest.{envelope_contains}

-- where some windows lie within an accepted envelope, each fixpoint does
pub fixpoint_within : (d : Parts) (v x : List Pair) → IsSound d → AreLevelled d.nets → IsWithinEnvelope d v → IsFixpoint d x → IsWithinEnvelope d x
fixpoint_within d v x sound levelled w f =
    let fits : IsContained (assigned x) (operator d (assigned x)) = record {
      each = λ n e. let P : Quad → Type 0 = λ q. IsWithin (assigned x n e) q in subst P (sym (f.fixed n e)) (within_refl (assigned x n e));
    } in
    record {
      top = w.top;
      envelope = w.envelope;
      accepted = w.accepted;
      contained = envelope_contains d levelled.0 (assigned x) w.top (wired d sound) levelled.1 w.envelope.widest fits;
    }
