-- Where what decides a net's windows is the same in two lists of loaded numbers, the operator makes the same of both.
use Rattle.std.proofs.Common.{◌≡◌, ℕ, ◌+◌, ◌*◌, ◌/◌, ◌%◌, ◌<◌, inl, inr, sym, ap, subst, ◌∙◌, List, length, get_or, ℤ, arith}
use Rattle.std.specs.Prelude.{Option, Some, None, IfSome, slice_index}
use Rattle.std.specs.List.{All, Contains, slice_get}
use Rattle.std.proofs.lemmas.Bool.{cases_lt}
use Rattle.std.proofs.lemmas.List.{get_or_default}
use Rattle.xt_model.specs.declared.edge.Edge.{Edge}
use Rattle.xt_model.specs.declared.edge.Edge.TheVariants.{Rise, Fall}
use Rattle.xt_model.specs.declared.net.Coupling.{Coupling}
use Rattle.xt_model.specs.declared.net.TimingArc.{TimingArc}
use Rattle.xt_model.specs.declared.net.Net.{Net}
use Rattle.xt_model.specs.declared.quad.Quad.{Quad}
use Rattle.xt_model.specs.declared.quad.Pair.{Pair}
use Rattle.xt_model.specs.Quads.{quad_at}
use Rattle.xt_model.specs.Parts.{Parts}
use Rattle.xt_model.specs.Assign.{Assignment, word_number}
use Rattle.xt_meaning.specs.Overlap.{overlaps}
use Rattle.xt_meaning.specs.Reads.{HoldsOfArcReads, HoldsOfEnds, HoldsOfReads}
use Rattle.xt_meaning.specs.Words.{bound_in}
use Rattle.xt_meaning.proofs.Extremes.{same_pair}
use Rattle.xt_meaning.proofs.Order.{same_quad}
use Rattle.xt_meaning.proofs.Words.{word_net}
use Rattle.miller_bits.proofs.Sums.{found, held}
use Rattle.chaos_core.specs.Alike.{AreDecidedAlike, HasSameAnswers, HaveSameAnswers, IsFedAlike}
use Rattle.chaos_core.specs.Spared.{loaded_quads, AreRead, IsStill, HasAnswersAlike, IsInputAlike, AreInputsAlike, IsOwnAlike}
use Rattle.chaos_core.specs.Tasks.{evaluated, loaded_bounds, place_of}
use Rattle.chaos_core.proofs.Deciding.{same_where_decided}

-- ---- windows
-- the words of a net that is read are read
pub word_read : (reads : List ℕ) (net : ℕ) (e : Edge) → Contains reads net → (side : ℕ) → side < 4 → Contains reads (word_number net e side / 8)
word_read reads net e h side lt = subst (Contains reads) (sym (word_net net e side lt)) h

module _ (reads before after : List ℕ) (net : ℕ) (same : (i : ℕ) → i < 8 → slice_index before (8 * place_of reads net + i) ≡ slice_index after (8 * place_of reads net + i)) where
  bound_still : (e : Edge) (side : ℕ) → side < 4 → loaded_bounds reads before (word_number net e side) ≡ loaded_bounds reads after (word_number net e side)
  bound_still e side lt =
      let r = word_number net e side % 8 in
      let P : ℕ → Type 0 = λ m. slice_index before (8 * place_of reads m + r) ≡ slice_index after (8 * place_of reads m + r) in
      ap bound_in (subst P (sym (word_net net e side lt)) (same r (omega arith)))

  -- a net of which the eight numbers are the same
  pub still_windows : IsStill (loaded_quads reads before) (loaded_quads reads after) net
  still_windows e = same_quad _ _ (bound_still e 0 (omega arith)) (bound_still e 1 (omega arith)) (bound_still e 2 (omega arith)) (bound_still e 3 (omega arith))

-- ---- overlap answers
pub answers_still : (period : Option ℤ) (W V : Assignment) (n m : ℕ) → IsStill W V n → IsStill W V m → HasSameAnswers period W V n m
answers_still period W V n m own other e f = ap (λ (q : Quad). overlaps period q (W m f)) (own e) ∙ ap (overlaps period (V n e)) (other f)

pub answers_met : (period : Option ℤ) (W V : Assignment) (n m : ℕ) (a b p q : Pair) → ((e : Edge) → quad_at a e ≡ W n e) → ((e : Edge) → quad_at b e ≡ V n e)
    → ((e : Edge) → quad_at p e ≡ W m e) → ((e : Edge) → quad_at q e ≡ V m e)
    → ((e f : Edge) → overlaps period (quad_at a e) (quad_at p f) ≡ overlaps period (quad_at b e) (quad_at q f)) → HasSameAnswers period W V n m
answers_met period W V n m a b p q own_before own_after other_before other_after h e f =
    ap (λ (r : Quad). overlaps period r (W m f)) (sym (own_before e)) ∙ (ap (overlaps period (quad_at a e)) (sym (other_before f)) ∙ (h e f
    ∙ (ap (λ (r : Quad). overlaps period r (quad_at q f)) (own_after e) ∙ ap (overlaps period (V n e)) (other_after f))))

-- ---- what is read
abbrev pub no_arc : TimingArc
no_arc = record { from = record { 0 = 0 }; sink = 0; input = Rise; output = Rise; delay = 0; slew = 0 }

arcs_read : (R : ℕ → Type 0) (d : Parts) (n : ℕ) (net : Net) → HoldsOfReads R d n → slice_get d.nets n ≡ Some net → All (HoldsOfArcReads R d n net) net.arcs
arcs_read R d n net read at = found (λ (x : Net). All (HoldsOfArcReads R d n x) x.arcs) (slice_get d.nets n) net at read.arcs

pub own_read : (R : ℕ → Type 0) (d : Parts) (n : ℕ) (net : Net) → HoldsOfReads R d n → slice_get d.nets n ≡ Some net → 0 < length net.arcs → AreRead d R n
own_read R d n net read at some =
    let a = arcs_read R d n net read at 0 no_arc some in
    record { own = a.own; ends = held (λ (x : Net). HoldsOfEnds R x.couplings) (slice_get d.nets n) net at a.aggressors }

pub input_read : (R : ℕ → Type 0) (d : Parts) (n : ℕ) (net : Net) (i : ℕ) (x : TimingArc) → HoldsOfReads R d n → slice_get d.nets n ≡ Some net → i < length net.arcs → AreRead d R (get_or net.arcs i x).from.0
input_read R d n net i x read at h =
    let a = arcs_read R d n net read at i x h in
    record { own = a.from; ends = a.from_aggressors }

-- ---- all of a list
-- one more of a list
pub all_turn : {X : Type 0} (P : X → Type 0) (xs : List X) (j : ℕ) (x : X) → j < length xs → ((i : ℕ) (k : X) → i < j → P (get_or xs i k)) → P (get_or xs j x) → (i : ℕ) (k : X) → i < j + 1 → P (get_or xs i k)
all_turn P xs j x there before here i k lt = elim (cases_lt i j) [
  | inl p ↦ before i k p
  | inr p ↦
      let e : j ≡ i = omega (arith, p, lt) in
      subst (λ y. P (get_or xs y k)) e (subst P (get_or_default xs j x k there) here)
]

pub answers_all : (d : Parts) (W V : Assignment) (n : ℕ) (net : Net) (items : List Coupling) (period : Option ℤ) → slice_get d.nets n ≡ Some net → items ≡ net.couplings → period ≡ d.period
    → HaveSameAnswers period W V n items → HasAnswersAlike d W V n
answers_all d W V n net items period at is real h =
    held (λ (x : Net). HaveSameAnswers d.period W V n x.couplings) (slice_get d.nets n) net at
    (subst (HaveSameAnswers d.period W V n) is (subst (λ (p : Option ℤ). HaveSameAnswers p W V n items) real h))

pub inputs_all : (d : Parts) (W V : Assignment) (n : ℕ) (net : Net) (items : List TimingArc) → slice_get d.nets n ≡ Some net → items ≡ net.arcs → All (λ a. IsInputAlike d W V a.from.0) items → AreInputsAlike d W V n
inputs_all d W V n net items at is h = held (λ (x : Net). All (λ a. IsInputAlike d W V a.from.0) x.arcs) (slice_get d.nets n) net at (subst (λ (xs : List TimingArc). All (λ a. IsInputAlike d W V a.from.0) xs) is h)

-- ---- the operator
module _ (d : Parts) (W V : Assignment) (n : ℕ) where
  fed : (o : Option Net) → IfSome o (λ net. All (λ a. IsInputAlike d W V a.from.0) net.arcs) → IfSome o (λ net. All (λ a. HaveSameAnswers d.period W V n net.couplings) net.arcs)
      → IfSome o (λ net. All (IsFedAlike d W V n net) net.arcs)
  fed None inputs own = tt
  fed (Some net) inputs own = λ i a h.
      let input = inputs i a h in
      record { window = input.windows (get_or net.arcs i a).input; own = own i a h; from = input.answers }

  same_own : (o : Option Net) → IfSome o (λ net. HaveSameAnswers d.period W V n net.couplings) → IfSome o (λ net. All (λ a. HaveSameAnswers d.period W V n net.couplings) net.arcs)
  same_own None h = tt
  same_own (Some net) h = λ i a lt. h

  pub own_alike : HasAnswersAlike d W V n → IsOwnAlike d W V n
  own_alike h = same_own (slice_get d.nets n) h

  pub decided_alike : AreInputsAlike d W V n → IsOwnAlike d W V n → AreDecidedAlike d W V n
  decided_alike inputs own = record { arcs = fed (slice_get d.nets n) inputs own }

pub evaluated_alike : (d : Parts) (reads before after : List ℕ) (n : ℕ) → AreDecidedAlike d (loaded_quads reads before) (loaded_quads reads after) n → evaluated d reads before n ≡ evaluated d reads after n
evaluated_alike d reads before after n h =
    let W = loaded_quads reads before in
    let V = loaded_quads reads after in
    same_pair (evaluated d reads before n) (evaluated d reads after n) (same_where_decided d W V n Rise h) (same_where_decided d W V n Fall h)
