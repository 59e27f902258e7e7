-- Where the nets have levels, each choice of overlap answers has one list of windows that the operator gives back
-- under it; as many rounds as there are nets reach it. The envelope is the one where everything overlaps.
use Rattle.std.proofs.Common.{◌≡◌, ℕ, zero, suc, ◌+◌, ◌<◌, ◌≤◌, inl, inr, refl, sym, ◌∙◌, subst, List, [], length, arith}
use Rattle.std.specs.Prelude.{Option, IfSome, slice_index}
use Rattle.std.specs.List.{All, slice_get}
use Rattle.std.proofs.lemmas.Bool.{cases_lt}
use Rattle.std.proofs.lemmas.List.Elements.{All-weaker}
use Rattle.std.proofs.lemmas.Option.{slice_get_past, IfSome_then}
use Rattle.xt_model.specs.declared.edge.Edge.{Edge}
use Rattle.xt_model.specs.declared.quad.Quad.{Quad}
use Rattle.xt_model.specs.declared.quad.Pair.{Pair}
use Rattle.xt_model.specs.declared.net.Coupling.{Coupling}
use Rattle.xt_model.specs.declared.net.TimingArc.{TimingArc}
use Rattle.xt_model.specs.declared.net.Net.{Net}
use Rattle.xt_model.specs.Quads.{bottom, IsWithin}
use Rattle.xt_model.specs.Parts.{Parts}
use Rattle.xt_model.specs.Sound.{IsSound}
use Rattle.xt_model.specs.Levels.{AreLevels}
use Rattle.xt_model.specs.Assign.{Assignment, assigned}
use Rattle.xt_meaning.specs.Overlap.{Answers, all_overlap}
use Rattle.xt_meaning.specs.Operator.{net_quad, operator_by, widest_operator}
use Rattle.xt_meaning.specs.Fixpoint.{IsContained}
use Rattle.xt_meaning.specs.Envelope.{IsFixedBy, IsWidest}
use Rattle.xt_meaning.proofs.Order.{within_refl, within_trans, within_antisym}
use Rattle.xt_meaning.proofs.Growth.{AreWired, wired, IsImpliedAt}
use Rattle.xt_meaning.proofs.Monotone.{ArcGrows, InputsGrow, operator_by_mono}
use Rattle.xt_meaning.proofs.Extremes.{same_windows}
use Rattle.xt_meaning.proofs.Widest.{IfSome_there, inputs_below}
use Rattle.xt_meaning.proofs.Depth.{levels_few}
use Rattle.xt_meaning.proofs.Listed.{listed, length-listed, listed_inside, listed_past}

pub past_bottom : (d : Parts) (b : Answers) (W : Assignment) (n : ℕ) (e : Edge) → length d.nets ≤ n → operator_by d b W n e ≡ bottom
unfolding operator_by
past_bottom d b W n e h = let P : Option Net → Type 0 = λ o. net_quad d b W n e o ≡ bottom in subst P (sym (slice_get_past d.nets n h)) refl

-- ---- rounds under given answers
module _ (d : Parts) (b : Answers) where
  next : List Pair → List Pair
  next v = listed (operator_by d b (assigned v)) 0 (length d.nets)

  next_is : (v : List Pair) (n : ℕ) (e : Edge) → assigned (next v) n e ≡ operator_by d b (assigned v) n e
  unfolding next
  next_is v n e = elim (cases_lt n (length d.nets)) [
    | inl p ↦
        let k : 0 + n ≡ n = omega arith in
        let P : ℕ → Type 0 = λ i. assigned (listed (operator_by d b (assigned v)) 0 (length d.nets)) n e ≡ operator_by d b (assigned v) i e in
        subst P k (listed_inside (operator_by d b (assigned v)) 0 (length d.nets) n e p)
    | inr p ↦ listed_past (operator_by d b (assigned v)) 0 (length d.nets) n e p ∙ sym (past_bottom d b (assigned v) n e p)
  ]

  rounds : ℕ → List Pair
  rounds zero = next []
  rounds (suc k) = next (rounds k)

-- the inputs of a net have the same windows on both sides
abbrev pub HaveSameInputs : Parts → Assignment → Assignment → ℕ → Type 0
HaveSameInputs d W V n = IfSome (slice_get d.nets n) (λ net. All (λ a. (f : Edge) → W a.from.0 f ≡ V a.from.0 f) net.arcs)

-- of wider windows at the inputs of a net the operator makes a wider window of it, under the same answers
pub inputs_mono : (d : Parts) (b : Answers) (W V : Assignment) (n : ℕ) (e : Edge) → AreWired d → InputsGrow d W V n → IsWithin (operator_by d b W n e) (operator_by d b V n e)
inputs_mono d b W V n e ws grow = operator_by_mono d b b W V n e ws (record {
  arcs = IfSome_then (slice_get d.nets n) grow (λ net each. All-weaker (λ a. (f : Edge) → IsWithin (W a.from.0 f) (V a.from.0 f)) (ArcGrows d b b W V n net) (λ a h. grows net a h) net.arcs each);
}) where
  itself : (m : ℕ) (ks : List Coupling) → IsImpliedAt b b m ks
  itself m ks = record { each = λ e f k x h t. t }

  grows : (net : Net) (a : TimingArc) → ((f : Edge) → IsWithin (W a.from.0 f) (V a.from.0 f)) → ArcGrows d b b W V n net a
  grows net a h = record {
    input = h;
    own = itself n net.couplings;
    wire = IfSome_there (λ m. IsImpliedAt b b a.from.0 m.couplings) (slice_get d.nets a.from.0) (λ m at. itself a.from.0 m.couplings);
  }

same_inputs_within : (d : Parts) (b : Answers) (W V : Assignment) (n : ℕ) (e : Edge) → AreWired d → HaveSameInputs d W V n → IsWithin (operator_by d b W n e) (operator_by d b V n e)
same_inputs_within d b W V n e ws same =
    inputs_mono d b W V n e ws
    (IfSome_then (slice_get d.nets n) same (λ net each. All-weaker (λ a. (f : Edge) → W a.from.0 f ≡ V a.from.0 f) (λ a. (f : Edge) → IsWithin (W a.from.0 f) (V a.from.0 f))
    (λ a h f. let P : Quad → Type 0 = λ s. IsWithin (W a.from.0 f) s in subst P (h f) (within_refl (W a.from.0 f))) net.arcs each))

turned_inputs : (d : Parts) (W V : Assignment) (n : ℕ) → HaveSameInputs d W V n → HaveSameInputs d V W n
turned_inputs d W V n same =
    IfSome_then (slice_get d.nets n) same (λ net each. All-weaker (λ a. (f : Edge) → W a.from.0 f ≡ V a.from.0 f) (λ a. (f : Edge) → V a.from.0 f ≡ W a.from.0 f) (λ a h f. sym (h f)) net.arcs each)

-- where the inputs of a net have the same windows it has the same window
pub same_inputs_by : (d : Parts) (b : Answers) (W V : Assignment) (n : ℕ) (e : Edge) → AreWired d → HaveSameInputs d W V n → operator_by d b W n e ≡ operator_by d b V n e
same_inputs_by d b W V n e ws same =
    within_antisym (operator_by d b W n e) (operator_by d b V n e) (same_inputs_within d b W V n e ws same) (same_inputs_within d b V W n e ws (turned_inputs d W V n same))

pub same_inputs : (d : Parts) (W V : Assignment) (n : ℕ) (e : Edge) → AreWired d → HaveSameInputs d W V n → widest_operator d W n e ≡ widest_operator d V n e
same_inputs d W V n e ws same = same_inputs_by d all_overlap W V n e ws same

-- what agrees on every lower level agrees on the inputs of a net
lower_inputs : (d : Parts) (ls : List ℕ) → AreLevels d.nets ls → (W V : Assignment) (n : ℕ) → ((m : ℕ) (f : Edge) → slice_index ls m < slice_index ls n → W m f ≡ V m f) → HaveSameInputs d W V n
lower_inputs d ls levels W V n same =
    IfSome_there (λ net. All (λ a. (f : Edge) → W a.from.0 f ≡ V a.from.0 f) net.arcs) (slice_get d.nets n)
    (λ net there. All-weaker (λ a. slice_index ls a.from.0 < slice_index ls n) (λ a. (f : Edge) → W a.from.0 f ≡ V a.from.0 f)
    (λ a below f. same a.from.0 f below) net.arcs (inputs_below d.nets ls levels n net there))

-- after as many rounds as its level a net keeps its windows
settled : (d : Parts) (b : Answers) (ls : List ℕ) → AreWired d → AreLevels d.nets ls → (k n : ℕ) → slice_index ls n ≤ k → (e : Edge) → assigned (rounds d b (suc k)) n e ≡ assigned (rounds d b k) n e
unfolding rounds
settled d b ls ws levels zero n h e =
    next_is d b (rounds d b 0) n e
    ∙ (same_inputs_by d b (assigned (rounds d b 0)) (assigned []) n e ws (lower_inputs d ls levels (assigned (rounds d b 0)) (assigned []) n (λ m f below. absurd (omega arith)))
    ∙ sym (next_is d b [] n e))
settled d b ls ws levels (suc k) n h e =
    next_is d b (rounds d b (suc k)) n e
    ∙ (same_inputs_by d b (assigned (rounds d b (suc k))) (assigned (rounds d b k)) n e ws
    (lower_inputs d ls levels (assigned (rounds d b (suc k))) (assigned (rounds d b k)) n (λ m f below. settled d b ls ws levels k m (omega arith) f))
    ∙ sym (next_is d b (rounds d b k) n e))

rounds_count : (d : Parts) (b : Answers) (k : ℕ) → length (rounds d b k) ≡ length d.nets
unfolding rounds next
rounds_count d b zero = length-listed (operator_by d b (assigned [])) 0 (length d.nets)
rounds_count d b (suc k) = length-listed (operator_by d b (assigned (rounds d b k))) 0 (length d.nets)

-- where the nets have levels there are windows that the operator gives back under these answers
pub fixed_exists : (d : Parts) (ls : List ℕ) (b : Answers) → IsSound d → AreLevels d.nets ls → (w : List Pair) × IsFixedBy d b w
unfolding rounds
fixed_exists d ls b s levels =
    let k = length d.nets in (
      rounds d b k,
      record {
        count = rounds_count d b k;
        fixed = λ n e. sym (next_is d b (rounds d b k) n e) ∙ settled d b ls (wired d s) levels k n (levels_few d.nets ls levels n) e;
      },
    )

pub widest_exists : (d : Parts) (ls : List ℕ) → IsSound d → AreLevels d.nets ls → (w : List Pair) × IsWidest d w
widest_exists d ls s levels = fixed_exists d ls all_overlap s levels

-- two such lists agree on every level
agree_below : (d : Parts) (ls : List ℕ) (b : Answers) (v w : List Pair) → AreWired d → AreLevels d.nets ls → IsFixedBy d b v → IsFixedBy d b w
    → (most n : ℕ) → slice_index ls n < most → (e : Edge) → assigned v n e ≡ assigned w n e
agree_below d ls b v w ws levels f g zero n h e = absurd (omega arith)
agree_below d ls b v w ws levels f g (suc most) n h e =
    sym (f.fixed n e)
    ∙ (same_inputs_by d b (assigned v) (assigned w) n e ws (lower_inputs d ls levels (assigned v) (assigned w) n (λ m k below. agree_below d ls b v w ws levels f g most m (omega arith) k))
    ∙ g.fixed n e)

-- so there is only one
pub fixed_unique : (d : Parts) (ls : List ℕ) (b : Answers) (v w : List Pair) → AreWired d → AreLevels d.nets ls → IsFixedBy d b v → IsFixedBy d b w → v ≡ w
fixed_unique d ls b v w ws levels f g =
    same_windows v w (f.count ∙ sym g.count) (λ n e. agree_below d ls b v w ws levels f g (suc (slice_index ls n)) n (omega arith) e)

-- ---- beside other windows
lower_within : (d : Parts) (ls : List ℕ) → AreLevels d.nets ls → (W V : Assignment) (n : ℕ) → ((m : ℕ) (f : Edge) → slice_index ls m < slice_index ls n → IsWithin (W m f) (V m f)) → InputsGrow d W V n
lower_within d ls levels W V n within =
    IfSome_there (λ net. All (λ a. (f : Edge) → IsWithin (W a.from.0 f) (V a.from.0 f)) net.arcs) (slice_get d.nets n)
    (λ net there. All-weaker (λ a. slice_index ls a.from.0 < slice_index ls n) (λ a. (f : Edge) → IsWithin (W a.from.0 f) (V a.from.0 f))
    (λ a below f. within a.from.0 f below) net.arcs (inputs_below d.nets ls levels n net there))

fits_below : (d : Parts) (ls : List ℕ) (b : Answers) (W : Assignment) (w : List Pair) → AreWired d → AreLevels d.nets ls → IsFixedBy d b w → IsContained W (operator_by d b W)
    → (most n : ℕ) → slice_index ls n < most → (e : Edge) → IsWithin (W n e) (assigned w n e)
fits_below d ls b W w ws levels f fits zero n h e = absurd (omega arith)
fits_below d ls b W w ws levels f fits (suc most) n h e =
    let P : Quad → Type 0 = λ q. IsWithin (operator_by d b W n e) q in
    within_trans (W n e) (operator_by d b W n e) (assigned w n e) (fits.each n e)
    (subst P (f.fixed n e) (inputs_mono d b W (assigned w) n e ws (lower_within d ls levels W (assigned w) n (λ m g below. fits_below d ls b W w ws levels f fits most m (omega arith) g))))

-- what lies within what the operator makes of it lies within the list
pub fits_within : (d : Parts) (ls : List ℕ) (b : Answers) (W : Assignment) (w : List Pair) → AreWired d → AreLevels d.nets ls → IsFixedBy d b w → IsContained W (operator_by d b W)
    → IsContained W (assigned w)
fits_within d ls b W w ws levels f fits = record { each = λ n e. fits_below d ls b W w ws levels f fits (suc (slice_index ls n)) n (omega arith) e }

holds_below : (d : Parts) (ls : List ℕ) (b : Answers) (W : Assignment) (w : List Pair) → AreWired d → AreLevels d.nets ls → IsFixedBy d b w → IsContained (operator_by d b W) W
    → (most n : ℕ) → slice_index ls n < most → (e : Edge) → IsWithin (assigned w n e) (W n e)
holds_below d ls b W w ws levels f holds zero n h e = absurd (omega arith)
holds_below d ls b W w ws levels f holds (suc most) n h e =
    let P : Quad → Type 0 = λ q. IsWithin q (operator_by d b W n e) in
    within_trans (assigned w n e) (operator_by d b W n e) (W n e)
    (subst P (f.fixed n e) (inputs_mono d b (assigned w) W n e ws (lower_within d ls levels (assigned w) W n (λ m g below. holds_below d ls b W w ws levels f holds most m (omega arith) g))))
    (holds.each n e)

-- what contains what the operator makes of it contains the list
pub holds_list : (d : Parts) (ls : List ℕ) (b : Answers) (W : Assignment) (w : List Pair) → AreWired d → AreLevels d.nets ls → IsFixedBy d b w → IsContained (operator_by d b W) W
    → IsContained (assigned w) W
holds_list d ls b W w ws levels f holds = record { each = λ n e. holds_below d ls b W w ws levels f holds (suc (slice_index ls n)) n (omega arith) e }
