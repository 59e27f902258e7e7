-- The envelope contains all windows that lie within what the operator makes of them: by induction over levels.
use Rattle.std.proofs.Common.{◌≡◌, ℕ, zero, suc, ◌<◌, refl, sym, subst, ◌∙◌, List, [], ◌∷◌, arith}
use Rattle.std.specs.Prelude.{Option, Some, None, IfSome, slice_index}
use Rattle.std.specs.List.{All, slice_get}
use Rattle.std.proofs.lemmas.List.Elements.{All-nil, All-cons, All-weaker}
use Rattle.xt_model.specs.declared.direction.Direction.TheVariants.{Widen}
use Rattle.xt_model.specs.declared.edge.Edge.{Edge}
use Rattle.xt_model.specs.declared.quad.Quad.{Quad}
use Rattle.xt_model.specs.declared.quad.Pair.{Pair}
use Rattle.xt_model.specs.declared.net.TimingArc.{TimingArc}
use Rattle.xt_model.specs.declared.net.Net.{Net}
use Rattle.xt_model.specs.Quads.{IsWithin}
use Rattle.xt_model.specs.Parts.{Parts}
use Rattle.xt_model.specs.Levels.{level_from, AreLevels}
use Rattle.xt_model.specs.Assign.{Assignment, assigned}
use Rattle.xt_meaning.specs.Overlap.{all_overlap}
use Rattle.xt_meaning.specs.Operator.{operator, widest_operator, step}
use Rattle.xt_meaning.specs.Fixpoint.{IsContained}
use Rattle.xt_meaning.specs.Envelope.{IsWidest, IsEnvelope}
use Rattle.xt_meaning.specs.Barrier.{IsBarrier}
use Rattle.xt_meaning.proofs.Order.{within_refl, within_trans, within_antisym}
use Rattle.xt_meaning.proofs.Growth.{AreWired}
use Rattle.xt_meaning.proofs.Monotone.{InputsGrow, operator_by_widest, widest_contains, contained_trans}
use Rattle.xt_meaning.proofs.Extremes.{same_windows}
use Rattle.xt_meaning.proofs.Steps.{widen_contained}

-- what holds of the value that is there
pub IfSome_there : {X : Type 0} (P : X → Type 0) (o : Option X) → ((x : X) → o ≡ Some x → P x) → IfSome o P
IfSome_there P None h = tt
IfSome_there P (Some x) h = h x refl

-- ---- levels
-- each input of the arcs is below the level that they make
arcs_below : (ls : List ℕ) (arcs : List TimingArc) → All (λ a. slice_index ls a.from.0 < level_from ls arcs) arcs
arcs_below ls [] = All-nil (λ a. slice_index ls a.from.0 < level_from ls [])
arcs_below ls (a ∷ more) = All-cons (λ b. slice_index ls b.from.0 < level_from ls (a ∷ more)) a more
    (omega arith)
    (All-weaker (λ b. slice_index ls b.from.0 < level_from ls more) (λ b. slice_index ls b.from.0 < level_from ls (a ∷ more)) (λ b h. omega arith) more (arcs_below ls more))

-- each arc of a net comes from a lower level
pub inputs_below : (nets : List Net) (ls : List ℕ) → AreLevels nets ls → (i : ℕ) (n : Net) → slice_get nets i ≡ Some n → All (λ a. slice_index ls a.from.0 < slice_index ls i) n.arcs
inputs_below nets ls levels i n there =
    let e = levels.each i n there in
    let P : ℕ → Type 0 = λ l. All (λ a. slice_index ls a.from.0 < l) n.arcs in
    subst P (sym e) (arcs_below ls n.arcs)

-- ---- the envelope
contains_below : (d : Parts) (ls : List ℕ) (W : Assignment) (w : List Pair) → AreWired d → AreLevels d.nets ls → IsWidest d w → IsContained W (widest_operator d W)
    → (most n : ℕ) → slice_index ls n < most → (e : Edge) → IsWithin (W n e) (assigned w n e)
contains_below d ls W w ws levels widest fits zero n h e = absurd (omega arith)
contains_below d ls W w ws levels widest fits (suc most) n h e =
    let inputs : InputsGrow d W (assigned w) n = IfSome_there (λ net. All (λ a. (f : Edge) → IsWithin (W a.from.0 f) (assigned w a.from.0 f)) net.arcs) (slice_get d.nets n)
    (λ net there. All-weaker (λ a. slice_index ls a.from.0 < slice_index ls n) (λ a. (f : Edge) → IsWithin (W a.from.0 f) (assigned w a.from.0 f))
    (λ a below f. contains_below d ls W w ws levels widest fits most a.from.0 (omega arith) f) net.arcs (inputs_below d.nets ls levels n net there)) in
    let P : Quad → Type 0 = λ q. IsWithin (widest_operator d W n e) q in
    within_trans (W n e) (widest_operator d W n e) (assigned w n e) (fits.each n e)
    (subst P (widest.fixed n e) (operator_by_widest d all_overlap W (assigned w) n e ws inputs))

-- it contains what lies within what is made of it where everything overlaps
pub widest_is_greatest : (d : Parts) (ls : List ℕ) (W : Assignment) (w : List Pair) → AreWired d → AreLevels d.nets ls → IsWidest d w → IsContained W (widest_operator d W)
    → IsContained W (assigned w)
widest_is_greatest d ls W w ws levels widest fits = record { each = λ n e. contains_below d ls W w ws levels widest fits (suc (slice_index ls n)) n (omega arith) e }

pub envelope_contains : (d : Parts) (ls : List ℕ) (W : Assignment) (w : List Pair) → AreWired d → AreLevels d.nets ls → IsWidest d w → IsContained W (operator d W)
    → IsContained W (assigned w)
envelope_contains d ls W w ws levels widest fits =
    widest_is_greatest d ls W w ws levels widest (contained_trans W (operator d W) (widest_operator d W) fits (widest_contains d W ws))

widest_fits : (d : Parts) (w : List Pair) → IsWidest d w → IsContained (assigned w) (widest_operator d (assigned w))
widest_fits d w h = record { each = λ n e. let P : Quad → Type 0 = λ q. IsWithin q (widest_operator d (assigned w) n e) in subst P (h.fixed n e) (within_refl (widest_operator d (assigned w) n e)) }

-- a design has one envelope
pub widest_unique : (d : Parts) (ls : List ℕ) (w x : List Pair) → AreWired d → AreLevels d.nets ls → IsWidest d w → IsWidest d x → w ≡ x
widest_unique d ls w x ws levels a b =
    let h = widest_is_greatest d ls (assigned w) x ws levels b (widest_fits d w a) in
    let k = widest_is_greatest d ls (assigned x) w ws levels a (widest_fits d x b) in
    same_windows w x (a.count ∙ sym b.count) (λ n e. within_antisym (assigned w n e) (assigned x n e) (h.each n e) (k.each n e))

-- what the operator makes of the envelope lies within it
pub envelope_closed : (d : Parts) (w : List Pair) → AreWired d → IsWidest d w → IsContained (step d w) (assigned w)
envelope_closed d w ws h = record { each = λ n e. let P : Quad → Type 0 = λ q. IsWithin (step d w n e) q in subst P (h.fixed n e) ((widest_contains d (assigned w) ws).each n e) }

-- in widening the envelope is a barrier
pub envelope_barrier : (d : Parts) (w : List Pair) → AreWired d → IsEnvelope d w → IsBarrier Widen d w
envelope_barrier d w ws h = record { windows = h.windows; closed = widen_contained (step d w) (assigned w) (envelope_closed d w ws h.widest) }
