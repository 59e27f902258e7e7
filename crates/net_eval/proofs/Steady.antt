-- Windows that the operator gives back, net by net.
use Rattle.std.proofs.Common.{◌≡◌, ℕ, ◌+◌, ◌*◌, ◌<◌, ◌≤◌, Bool, inl, inr, refl, sym, ap, subst, ◌∙◌, List, [], length, get_or, arith}
use Rattle.std.specs.Prelude.{IsTrue, ◌↔◌, Option, Some, None, IfSome}
use Rattle.std.specs.Option.{IsSomeAnd}
use Rattle.std.specs.List.{All, slice_get}
use Rattle.std.proofs.lemmas.Option.{slice_get_past, slice_get_within}
use Rattle.std.proofs.lemmas.Bool.{cases_lt}
use Rattle.xt_model.specs.declared.edge.Edge.{Edge}
use Rattle.xt_model.specs.declared.edge.Edge.TheVariants.{Rise, Fall}
use Rattle.xt_model.specs.declared.quad.Quad.{Quad}
use Rattle.xt_model.specs.declared.quad.Pair.{Pair}
use Rattle.xt_model.specs.declared.net.Net.{Net}
use Rattle.xt_model.specs.Quads.{IsWithin, quad_at}
use Rattle.xt_model.specs.Parts.{Parts}
use Rattle.xt_model.specs.Tables.{TableParts}
use Rattle.xt_model.specs.Sound.{IsSound, IsSoundNet}
use Rattle.xt_model.specs.Assign.{assigned, edge_number, words_of, quads_of}
use Rattle.xt_meaning.specs.Operator.{operator_by, operator, step}
use Rattle.xt_meaning.specs.Reads.{HoldsOfEnds, HoldsOfArcReads, HoldsOfReads}
use Rattle.xt_meaning.specs.Fixpoint.{IsContained}
use Rattle.xt_meaning.specs.Barrier.{IsWithinEnvelope}
use Rattle.xt_meaning.proofs.Order.{within_refl, within_antisym}
use Rattle.xt_meaning.proofs.Extremes.{same_pair}
use Rattle.xt_meaning.proofs.Growth.{wired}
use Rattle.xt_meaning.proofs.Monotone.{operator_mono}
use Rattle.xt_meaning.proofs.Words.{quads_of_words}
use Rattle.table_box.specs.Groups.{AreGroups}
use Rattle.miller_bits.specs.Views.{HasNet}
use Rattle.net_eval.specs.Room.{ReadsWithinEnvelope}
use Rattle.net_eval.specs.Closing.{IsSteadyAt}

-- the words of a list of windows
abbrev HasWord : List Pair → ℕ → Type 0
HasWord v word = word < 8 * length v

edge_small : (e : Edge) → edge_number e ≤ 1
edge_small Rise = omega arith
edge_small Fall = omega arith

has_net : (v : List Pair) (n : ℕ) → n < length v → HasNet (HasWord v) n
has_net v n h = λ e side k. let s = edge_small e in omega (arith, h, k, s)

has_ends : (d : Parts) (v : List Pair) (own : ℕ) (n : Net) → length v ≡ length d.nets → IsSoundNet d own n → HoldsOfEnds (HasNet (HasWord v)) n.couplings
has_ends d v own n count s = λ k x h. has_net v (get_or n.couplings k x).to.0 (rw count ((s.couplings k x h).there))

pub has_sink : (d : Parts) (m sink : ℕ) (o : Option Net) → slice_get d.nets m ≡ o → IsSomeAnd o (λ n. sink < length n.sinks) → m < length d.nets
has_sink d m sink None e h = absurd h
has_sink d m sink (Some n) e h = slice_get_within d.nets m n e

from_ends : (d : Parts) (v : List Pair) (m : ℕ) (o : Option Net) → length v ≡ length d.nets → IfSome o (IsSoundNet d m) → IfSome o (λ n. HoldsOfEnds (HasNet (HasWord v)) n.couplings)
from_ends d v m None count s = tt
from_ends d v m (Some n) count s = has_ends d v m n count s

arcs_read : (d : Parts) (v : List Pair) (n : ℕ) (o : Option Net) → length v ≡ length d.nets → IsSound d → n < length v → IfSome o (IsSoundNet d n) → IfSome o (λ net. All (HoldsOfArcReads (HasNet (HasWord v)) d n net) net.arcs)
arcs_read d v n None count s n_in sound = tt
arcs_read d v n (Some net) count s n_in sound = λ k x h.
    let a = get_or net.arcs k x in
    record {
      own = has_net v n n_in;
      aggressors = has_ends d v n net count sound;
      from = has_net v a.from.0 (rw count (has_sink d a.from.0 a.sink (slice_get d.nets a.from.0) refl (sound.arcs k x h).sink));
      from_aggressors = from_ends d v a.from.0 (slice_get d.nets a.from.0) count (s.nets a.from.0);
    }

-- windows hold all words that an evaluation reads
pub windows_read : (d : Parts) (v : List Pair) (n : ℕ) → length v ≡ length d.nets → IsSound d → n < length d.nets → HoldsOfReads (HasNet (HasWord v)) d n
windows_read d v n count s n_in = record { arcs = arcs_read d v n (slice_get d.nets n) count s (rw count n_in) (s.nets n) }

-- windows within an envelope are so at each net
pub windows_within : (d : Parts) (v : List Pair) (n : ℕ) → IsWithinEnvelope d v → ReadsWithinEnvelope d (quads_of (words_of (assigned v))) n
windows_within d v n w = record { top = w.top; envelope = w.envelope; accepted = w.accepted; inputs = each (slice_get d.nets n) } where
  each : (o : Option Net) → IfSome o (λ net. All (λ a. IsWithin (quads_of (words_of (assigned v)) a.from.0 a.input) (assigned w.top a.from.0 a.input)) net.arcs)
  each None = tt
  each (Some net) = λ k x h.
      let a = get_or net.arcs k x in
      let P : Quad → Type 0 = λ q. IsWithin q (assigned w.top a.from.0 a.input) in
      subst P (sym (quads_of_words (assigned v) a.from.0 a.input)) (w.contained.each a.from.0 a.input)

-- the operator of the windows' words is that of the windows
pub operator_of_words : (d : Parts) (v : List Pair) (n : ℕ) (e : Edge) → IsSound d → operator d (quads_of (words_of (assigned v))) n e ≡ step d v n e
operator_of_words d v n e s =
    let W = quads_of (words_of (assigned v)) in
    within_antisym (operator d W n e) (step d v n e) ((operator_mono d W (assigned v) (wired d s) to).each n e) ((operator_mono d (assigned v) W (wired d s) back).each n e) where
      to : IsContained (quads_of (words_of (assigned v))) (assigned v)
      to = record { each = λ m f. let P : Quad → Type 0 = λ q. IsWithin q (assigned v m f) in subst P (sym (quads_of_words (assigned v) m f)) (within_refl (assigned v m f)) }

      back : IsContained (assigned v) (quads_of (words_of (assigned v)))
      back = record { each = λ m f. let P : Quad → Type 0 = λ q. IsWithin (assigned v m f) q in subst P (sym (quads_of_words (assigned v) m f)) (within_refl (assigned v m f)) }

assigned_at : (v : List Pair) (n : ℕ) (p : Pair) (e : Edge) → slice_get v n ≡ Some p → assigned v n e ≡ quad_at p e
assigned_at v n p e there = rw there refl

-- a test whether the operator gives the pair of a net back tells whether the windows are steady there
pub steady_iff : (d : Parts) (v : List Pair) (n : ℕ) (p r : Pair) (b : Bool) → IsSound d → slice_get v n ≡ Some p
    → r.rise ≡ operator d (quads_of (words_of (assigned v))) n Rise → r.fall ≡ operator d (quads_of (words_of (assigned v))) n Fall
    → (IsTrue b ↔ (r ≡ p)) → IsTrue b ↔ IsSteadyAt d v n
steady_iff d v n p r b s there rise fall iff = (λ t. record { fixed = fixed (iff.0 t) }, λ h. iff.1 (back h)) where
  rise_is : r.rise ≡ step d v n Rise
  rise_is = rise ∙ operator_of_words d v n Rise s

  fall_is : r.fall ≡ step d v n Fall
  fall_is = fall ∙ operator_of_words d v n Fall s

  fixed : r ≡ p → (e : Edge) → step d v n e ≡ assigned v n e
  fixed same Rise = sym rise_is ∙ (ap (λ q. q.rise) same ∙ sym (assigned_at v n p Rise there))
  fixed same Fall = sym fall_is ∙ (ap (λ q. q.fall) same ∙ sym (assigned_at v n p Fall there))

  back : IsSteadyAt d v n → r ≡ p
  back h = same_pair r p (rise_is ∙ (h.fixed Rise ∙ assigned_at v n p Rise there)) (fall_is ∙ (h.fixed Fall ∙ assigned_at v n p Fall there))

-- past the last net the operator and the windows are bottom
steady_past : (d : Parts) (v : List Pair) (n : ℕ) (e : Edge) → length v ≡ length d.nets → length d.nets ≤ n → step d v n e ≡ assigned v n e
unfolding operator_by
steady_past d v n e count past =
    let k : length v ≤ n = rw count past in
    let f = slice_get_past d.nets n past in
    let g = slice_get_past v n k in
    rw (f, g) refl

-- windows that are steady at each net are steady
pub steady_all : (d : Parts) (v : List Pair) → length v ≡ length d.nets → ((n : ℕ) → n < length d.nets → IsSteadyAt d v n) → (n : ℕ) (e : Edge) → step d v n e ≡ assigned v n e
steady_all d v count h n e = elim (cases_lt n (length d.nets)) [
  | inl p ↦ (h n p).fixed e
  | inr p ↦ steady_past d v n e count p
]

-- steady at a net more
pub steady_more : (d : Parts) (v : List Pair) (from to : ℕ) → ((n : ℕ) → from ≤ n → n < to → IsSteadyAt d v n) → IsSteadyAt d v to → (n : ℕ) → from ≤ n → n < to + 1 → IsSteadyAt d v n
steady_more d v from to h last n low high = elim (cases_lt n to) [
  | inl p ↦ h n low p
  | inr p ↦ let e : to ≡ n = omega (arith, p, high) in subst (IsSteadyAt d v) e last
]

-- ---- groups of tables
-- where no table has a group
pub no_groups : (tables : List TableParts) → AreGroups tables []
no_groups tables = record { each = λ i j t u t_there u_there some same. absurd (let bad : ⊥ = omega (arith, some) in bad) }
