-- What is seen in words: its range, and how it moves on.
use Rattle.std.proofs.Common.{◌≡◌, ◌≢◌, ℕ, zero, suc, ◌/◌, ◌%◌, ◌<◌, ◌≤◌, inl, inr, refl, sym, subst, List, length, set, ℤ, ◌≤ℤ◌, arith}
use Rattle.std.specs.Prelude.{min, max}
use Rattle.std.proofs.lemmas.Int.{ints}
use Rattle.std.proofs.lemmas.Bool.{cases_eq}
use Rattle.std.proofs.lemmas.List.{get_or-set_same, get_or-set_other}
use Rattle.xt_model.specs.declared.direction.Direction.{Direction}
use Rattle.xt_model.specs.declared.direction.Direction.TheVariants.{Widen, Narrow}
use Rattle.xt_model.specs.declared.quad.Quad.{Quad}
use Rattle.xt_model.specs.declared.quad.Pair.{Pair}
use Rattle.xt_model.specs.Quads.{top_bound, IsBound, IsInRange}
use Rattle.xt_model.specs.Parts.{Parts}
use Rattle.xt_model.specs.Sound.{IsSound}
use Rattle.xt_model.specs.Assign.{assigned, edge_of, side_of, words_of, quads_of}
use Rattle.xt_meaning.specs.Overlap.{overlap_answers}
use Rattle.xt_meaning.specs.Operator.{step, operator}
use Rattle.xt_meaning.specs.Fixpoint.{IsWindows, IsContained}
use Rattle.xt_meaning.specs.Envelope.{IsEnvelope}
use Rattle.xt_meaning.specs.Barrier.{IsBoundNoFurther, IsBarrier, RespectsAt, IsFittingStart}
use Rattle.xt_meaning.specs.Laws.{quiet_windows}
use Rattle.xt_meaning.specs.Words.{bound_in, number_at, bounds_in, onward, AreNoFurther, MovesDown, MovesUp, further}
use Rattle.xt_meaning.proofs.Growth.{wired}
use Rattle.xt_meaning.proofs.Words.{words_from_quads}
use Rattle.xt_meaning.proofs.Steps.{bound_refl, bound_trans, widen_contained, narrow_contained, further_mono}
use Rattle.xt_meaning.proofs.Numbers.{quads_no_further}
use Rattle.xt_meaning.proofs.Widest.{envelope_barrier}
use Rattle.xt_meaning.proofs.Starts.{bottom_within_operator, windows_in_range, quiet_within, quiet_is_windows}
use Rattle.chaos_core.specs.declared.setting.Setting.{Setting}
use Rattle.chaos_core.specs.Boards.{IsSeen}

-- ---- ranges
side_in_range : (q : Quad) (s : ℕ) → IsInRange q → IsBound (side_of q s)
side_in_range q zero h = h.tlo
side_in_range q (suc zero) h = h.thi
side_in_range q (suc (suc zero)) h = h.slo
side_in_range q (suc (suc (suc s))) h = h.shi

word_in_range : (d : Parts) (v : List Pair) (word : ℕ) → IsWindows d v → IsBound (words_of (assigned v) word)
word_in_range d v word w = side_in_range (assigned v (word / 8) (edge_of (word / 4 % 2))) (word % 4) (windows_in_range d v w (word / 8) (edge_of (word / 4 % 2)))

-- nothing narrows beyond windows in which nothing switches
quiet_barrier : (d : Parts) → IsSound d → IsBarrier Narrow d (quiet_windows d)
quiet_barrier d s = record {
  windows = quiet_is_windows d;
  closed = narrow_contained (step d (quiet_windows d)) (assigned (quiet_windows d))
      (quiet_within (length d.nets) (step d (quiet_windows d)) (λ n e. bottom_within_operator d (overlap_answers d.period (assigned (quiet_windows d))) (assigned (quiet_windows d)) n e s));
}

turned : (side : ℕ) (a b : ℤ) → IsBoundNoFurther Narrow side a b → IsBoundNoFurther Widen side b a
turned zero a b h = h
turned (suc s) a b h = h

-- a bound that crosses no barrier and is at or past the start lies within the envelope
pub within_top : (way : Direction) (d : Parts) (start top : List Pair) (word : ℕ) (b : ℤ) → IsSound d → IsEnvelope d top → IsContained (assigned start) (assigned top)
    → RespectsAt way d word b → IsBoundNoFurther way (word % 2) (words_of (assigned start) word) b → IsBoundNoFurther Widen (word % 2) b (words_of (assigned top) word)
within_top Widen d start top word b s env c r h = r.each top (envelope_barrier d top (wired d s) env)
within_top Narrow d start top word b s env c r h =
    bound_trans Widen (word % 2) b (words_of (assigned start) word) (words_of (assigned top) word) (turned (word % 2) (words_of (assigned start) word) b h)
    (words_from_quads Widen (assigned start) (assigned top) (widen_contained (assigned start) (assigned top) c) word)

below_widened : (side : ℕ) (start b top : ℤ) → IsBoundNoFurther Widen side start b → IsBoundNoFurther Widen side b top → IsBound start → IsBound top → b ≤ℤ top_bound
below_widened zero start b top h k s t = let u = s.high in omega (arith, ints)
below_widened (suc n) start b top h k s t = let u = t.high in omega (arith, ints)

below_narrowed : (side : ℕ) (start b quiet : ℤ) → IsBoundNoFurther Narrow side start b → IsBoundNoFurther Narrow side b quiet → IsBound start → IsBound quiet → b ≤ℤ top_bound
below_narrowed zero start b quiet h k s t = let u = t.high in omega (arith, ints)
below_narrowed (suc n) start b quiet h k s t = let u = s.high in omega (arith, ints)

bound_below : (way : Direction) (d : Parts) (start : List Pair) (word : ℕ) (b : ℤ) → IsSound d → IsFittingStart way d start → RespectsAt way d word b
    → IsBoundNoFurther way (word % 2) (words_of (assigned start) word) b → b ≤ℤ top_bound
bound_below Widen d start word b s f r h =
    let top = f.within.top in
    below_widened (word % 2) (words_of (assigned start) word) b (words_of (assigned top) word) h
    (within_top Widen d start top word b s f.within.envelope f.within.contained r h) (word_in_range d start word f.windows) (word_in_range d top word f.within.envelope.windows)
bound_below Narrow d start word b s f r h =
    let q = quiet_windows d in
    below_narrowed (word % 2) (words_of (assigned start) word) b (words_of (assigned q) word) h
    (r.each q (quiet_barrier d s)) (word_in_range d start word f.windows) (word_in_range d q word (quiet_is_windows d))

-- what is seen in a word stands for a bound
pub seen_range : (a : Setting) (seen : List ℕ) (word : ℕ) → IsSeen a seen → number_at seen word ≤ 9223372036854775808
seen_range a seen word h =
    let k = bound_below a.way a.design a.start word (bounds_in seen word) h.sound h.start (h.respects word) (h.started word) in
    omega (arith, ints, k)

-- ---- moving on
pub are_refl : (way : Direction) (f : ℕ → ℤ) → AreNoFurther way f f
are_refl way f word = bound_refl way (word % 2) (f word)

pub are_trans : (way : Direction) (f g h : ℕ → ℤ) → AreNoFurther way f g → AreNoFurther way g h → AreNoFurther way f h
are_trans way f g h k l word = bound_trans way (word % 2) (f word) (g word) (h word) (k word) (l word)

pub onward_mono : (way : Direction) (d : Parts) (f g : ℕ → ℤ) → IsSound d → AreNoFurther way f g → AreNoFurther way (onward d f) (onward d g)
onward_mono way d f g s h word =
    words_from_quads way (operator d (quads_of f)) (operator d (quads_of g)) (further_mono way d (quads_of f) (quads_of g) (wired d s) (quads_no_further way f g h)) word

pub number_here : (seen : List ℕ) (word number : ℕ) → word < length seen → number_at (set seen word number) word ≡ number
number_here seen word number h = get_or-set_same seen word number _ h

pub number_else : (seen : List ℕ) (word number w : ℕ) → w ≢ word → number_at (set seen word number) w ≡ number_at seen w
number_else seen word number w h = get_or-set_other seen word w number _ h

-- what holds of a number in a word and of all other words holds of all words
pub at_each : (P : ℕ → ℕ → Type 0) (seen : List ℕ) (word number : ℕ) → word < length seen → P word number → ((w : ℕ) → P w (number_at seen w)) → (w : ℕ) → P w (number_at (set seen word number) w)
at_each P seen word number h here else w = elim (cases_eq w word) [
  | inl e ↦
      let Q : ℕ → Type 0 = λ v. P v (number_at (set seen word number) v) in
      subst Q (sym e) (subst (P word) (sym (number_here seen word number h)) here)
  | inr ne ↦ subst (P w) (sym (number_else seen word number w ne)) (else w)
]

-- one word moves on
pub seen_onward : (way : Direction) (seen : List ℕ) (word number : ℕ) → word < length seen → IsBoundNoFurther way (word % 2) (bounds_in seen word) (bound_in number)
    → AreNoFurther way (bounds_in seen) (bounds_in (set seen word number))
seen_onward way seen word number h k =
    at_each (λ w n. IsBoundNoFurther way (w % 2) (bounds_in seen w) (bound_in n)) seen word number h k (λ w. bound_refl way (w % 2) (bounds_in seen w))

-- ---- the further of two, by the parity of the word
pub further_down : (way : Direction) (side m n : ℕ) → MovesDown way side → further way side m n ≡ min m n
further_down Widen zero m n h = refl
further_down Widen (suc s) m n h = absurd h
further_down Narrow zero m n h = absurd h
further_down Narrow (suc s) m n h = refl

pub further_up : (way : Direction) (side m n : ℕ) → MovesUp way side → further way side m n ≡ max m n
further_up Widen zero m n h = absurd h
further_up Widen (suc s) m n h = refl
further_up Narrow zero m n h = refl
further_up Narrow (suc s) m n h = absurd h
