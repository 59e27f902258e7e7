-- What a run in one direction keeps: it crosses no barrier, and stays no further than what the operator makes.
-- Both directions at once.
use Rattle.std.proofs.Common.{◌≡◌, ℕ, zero, suc, ◌/◌, ◌%◌, ◌⊎◌, inl, inr, sym, subst, List, ℤ, arith}
use Rattle.std.specs.Int.{int_min, int_max}
use Rattle.std.proofs.lemmas.Int.{ints, clamps, by_lt_z}
use Rattle.xt_model.specs.declared.direction.Direction.{Direction}
use Rattle.xt_model.specs.declared.direction.Direction.TheVariants.{Widen, Narrow}
use Rattle.xt_model.specs.declared.edge.Edge.{Edge}
use Rattle.xt_model.specs.declared.quad.Quad.{Quad}
use Rattle.xt_model.specs.declared.quad.Pair.{Pair}
use Rattle.xt_model.specs.Parts.{Parts}
use Rattle.xt_model.specs.Assign.{Assignment, assigned, edge_of, words_of, quads_of}
use Rattle.xt_meaning.specs.Operator.{operator, step}
use Rattle.xt_meaning.specs.Reads.{HoldsOfReads}
use Rattle.xt_meaning.specs.Fixpoint.{IsContained}
use Rattle.xt_meaning.specs.Barrier.{IsNoFurther, NoFurther, IsBoundNoFurther, IsBarrier, RespectsAt, Respects}
use Rattle.xt_meaning.specs.Laws.{IsStep}
use Rattle.xt_meaning.proofs.Order.{within_refl, within_trans, within_antisym}
use Rattle.xt_meaning.proofs.Growth.{AreWired}
use Rattle.xt_meaning.proofs.Monotone.{operator_mono_at, operator_mono}
use Rattle.xt_meaning.proofs.Words.{word_from_quads, words_from_quads, quad_from_words, quads_of_words}

-- ---- the order of a direction
pub no_further_refl : (way : Direction) (q : Quad) → IsNoFurther way q q
no_further_refl Widen q = within_refl q
no_further_refl Narrow q = within_refl q

pub no_further_trans : (way : Direction) (p q r : Quad) → IsNoFurther way p q → IsNoFurther way q r → IsNoFurther way p r
no_further_trans Widen p q r h k = within_trans p q r h k
no_further_trans Narrow p q r h k = within_trans r q p k h

pub no_further_antisym : (way : Direction) (q r : Quad) → IsNoFurther way q r → IsNoFurther way r q → q ≡ r
no_further_antisym Widen q r h k = within_antisym q r h k
no_further_antisym Narrow q r h k = within_antisym q r k h

pub no_further_same : (way : Direction) (q r : Quad) → q ≡ r → IsNoFurther way q r
no_further_same way q r e = let P : Quad → Type 0 = λ s. IsNoFurther way q s in subst P e (no_further_refl way q)

pub further_refl : (way : Direction) (W : Assignment) → NoFurther way W W
further_refl way W = record { each = λ n e. no_further_refl way (W n e) }

pub further_trans : (way : Direction) (W V U : Assignment) → NoFurther way W V → NoFurther way V U → NoFurther way W U
further_trans way W V U h k = record { each = λ n e. no_further_trans way (W n e) (V n e) (U n e) (h.each n e) (k.each n e) }

pub further_same : (way : Direction) (W V : Assignment) → ((n : ℕ) (e : Edge) → W n e ≡ V n e) → NoFurther way W V
further_same way W V same = record { each = λ n e. no_further_same way (W n e) (V n e) (same n e) }

pub contained_widen : (W V : Assignment) → NoFurther Widen W V → IsContained W V
contained_widen W V h = record { each = h.each }

pub contained_narrow : (W V : Assignment) → NoFurther Narrow W V → IsContained V W
contained_narrow W V h = record { each = h.each }

pub widen_contained : (W V : Assignment) → IsContained W V → NoFurther Widen W V
widen_contained W V h = record { each = h.each }

pub narrow_contained : (W V : Assignment) → IsContained V W → NoFurther Narrow W V
narrow_contained W V h = record { each = h.each }

-- the same on a set of nets
pub record NoFurtherAt (R : ℕ → Type 0) (way : Direction) (W V : Assignment) : Type 0 where
  pub each : (n : ℕ) (e : Edge) → R n → IsNoFurther way (W n e) (V n e)

pub operator_no_further_at : (R : ℕ → Type 0) (way : Direction) (d : Parts) (W V : Assignment) (n : ℕ) (e : Edge) → AreWired d → HoldsOfReads R d n → NoFurtherAt R way W V
    → IsNoFurther way (operator d W n e) (operator d V n e)
operator_no_further_at R Widen d W V n e ws r h = operator_mono_at R d W V n e ws r (record { each = h.each })
operator_no_further_at R Narrow d W V n e ws r h = operator_mono_at R d V W n e ws r (record { each = h.each })

pub further_mono : (way : Direction) (d : Parts) (W V : Assignment) → AreWired d → NoFurther way W V → NoFurther way (operator d W) (operator d V)
further_mono Widen d W V ws h = widen_contained (operator d W) (operator d V) (operator_mono d W V ws (contained_widen W V h))
further_mono Narrow d W V ws h = narrow_contained (operator d W) (operator d V) (operator_mono d V W ws (contained_narrow W V h))

-- ---- bounds
pub bound_trans : (way : Direction) (s : ℕ) (a b c : ℤ) → IsBoundNoFurther way s a b → IsBoundNoFurther way s b c → IsBoundNoFurther way s a c
bound_trans Widen zero a b c h k = omega (arith, ints)
bound_trans Widen (suc s) a b c h k = omega (arith, ints)
bound_trans Narrow zero a b c h k = omega (arith, ints)
bound_trans Narrow (suc s) a b c h k = omega (arith, ints)

pub bound_refl : (way : Direction) (s : ℕ) (a : ℤ) → IsBoundNoFurther way s a a
bound_refl Widen zero a = omega (arith, ints)
bound_refl Widen (suc s) a = omega (arith, ints)
bound_refl Narrow zero a = omega (arith, ints)
bound_refl Narrow (suc s) a = omega (arith, ints)

-- where a bound crosses no barrier, no bound behind it does
pub respects_before : (way : Direction) (d : Parts) (word : ℕ) (a b : ℤ) → IsBoundNoFurther way (word % 2) a b → RespectsAt way d word b → RespectsAt way d word a
respects_before way d word a b h r = record { each = λ v k. bound_trans way (word % 2) a b (words_of (assigned v) word) h (r.each v k) }

least_is_one : (a b : ℤ) → (a ≡ int_min a b) ⊎ (b ≡ int_min a b)
least_is_one a b = by_lt_z b a (λ h. inr (omega (arith, ints, clamps))) (λ h. inl (omega (arith, ints, clamps)))

greatest_is_one : (a b : ℤ) → (a ≡ int_max a b) ⊎ (b ≡ int_max a b)
greatest_is_one a b = by_lt_z b a (λ h. inl (omega (arith, ints, clamps))) (λ h. inr (omega (arith, ints, clamps)))

one_respects : (way : Direction) (d : Parts) (word : ℕ) (a b c : ℤ) → RespectsAt way d word a → RespectsAt way d word b → (a ≡ c) ⊎ (b ≡ c) → RespectsAt way d word c
one_respects way d word a b c ra rb (inl e) = subst (RespectsAt way d word) e ra
one_respects way d word a b c ra rb (inr e) = subst (RespectsAt way d word) e rb

-- the least and the greatest of two bounds that cross no barrier cross none
pub respects_least : (way : Direction) (d : Parts) (word : ℕ) (a b : ℤ) → RespectsAt way d word a → RespectsAt way d word b → RespectsAt way d word (int_min a b)
respects_least way d word a b ra rb = one_respects way d word a b (int_min a b) ra rb (least_is_one a b)

pub respects_greatest : (way : Direction) (d : Parts) (word : ℕ) (a b : ℤ) → RespectsAt way d word a → RespectsAt way d word b → RespectsAt way d word (int_max a b)
respects_greatest way d word a b ra rb = one_respects way d word a b (int_max a b) ra rb (greatest_is_one a b)

-- ---- all words together
-- the windows are no further than any barrier
pub record RespectsAll (way : Direction) (d : Parts) (W : Assignment) : Type 0 where
  pub each : (v : List Pair) → IsBarrier way d v → NoFurther way W (assigned v)

pub respects_of_words : (way : Direction) (d : Parts) (f : ℕ → ℤ) → ((word : ℕ) → RespectsAt way d word (f word)) → RespectsAll way d (quads_of f)
respects_of_words way d f r = record { each = λ v b. record { each = λ n e. quad_from_words way f (assigned v) n e (λ word h. (r word).each v b) } }

-- words that each cross no barrier cross none together
pub respects_together : (way : Direction) (d : Parts) (W : Assignment) → Respects way d W → RespectsAll way d W
respects_together way d W r = record {
  each = λ v b. record {
    each = λ n e.
        let h = (respects_of_words way d (words_of W) r.each).each v b in
        let P : Quad → Type 0 = λ q. IsNoFurther way q (assigned v n e) in
        subst P (quads_of_words W n e) (h.each n e);
  };
}

pub respects_apart : (way : Direction) (d : Parts) (W : Assignment) → RespectsAll way d W → Respects way d W
respects_apart way d W r = record { each = λ word. record { each = λ v b. words_from_quads way W (assigned v) (r.each v b) word } }

-- where each word of what the operator looks at for a net crosses no barrier, neither does what it makes
pub operator_respects_at : (R : ℕ → Type 0) (way : Direction) (d : Parts) (f : ℕ → ℤ) (n : ℕ) (e : Edge) → AreWired d → HoldsOfReads R d n
    → ((word : ℕ) → R (word / 8) → RespectsAt way d word (f word))
    → (v : List Pair) → IsBarrier way d v → IsNoFurther way (operator d (quads_of f) n e) (assigned v n e)
operator_respects_at R way d f n e ws reads r v b =
    let at : NoFurtherAt R way (quads_of f) (assigned v) = record {
      each = λ m g t.
          quad_from_words way f (assigned v) m g (λ word h. (r word (subst R (sym h) t)).each v b);
    } in
    no_further_trans way (operator d (quads_of f) n e) (step d v n e) (assigned v n e)
    (operator_no_further_at R way d (quads_of f) (assigned v) n e ws reads at) (b.closed.each n e)

pub word_respects_at : (R : ℕ → Type 0) (way : Direction) (d : Parts) (f : ℕ → ℤ) (word : ℕ) → AreWired d → HoldsOfReads R d (word / 8)
    → ((w : ℕ) → R (w / 8) → RespectsAt way d w (f w))
    → RespectsAt way d word (words_of (operator d (quads_of f)) word)
word_respects_at R way d f word ws reads r = record {
  each = λ v b.
      word_from_quads way (operator d (quads_of f)) (assigned v) word (operator_respects_at R way d f (word / 8) (edge_of (word / 4 % 2)) ws reads r v b);
}

-- ---- a step
-- what the operator makes of windows that cross no barrier crosses none
pub respects_step : (way : Direction) (d : Parts) (W : Assignment) → AreWired d → RespectsAll way d W → RespectsAll way d (operator d W)
respects_step way d W ws r = record { each = λ v b. further_trans way (operator d W) (step d v) (assigned v) (further_mono way d W (assigned v) ws (r.each v b)) b.closed }

-- where windows cross no barrier, no windows behind them do
pub respects_behind : (way : Direction) (d : Parts) (W V : Assignment) → NoFurther way W V → RespectsAll way d V → RespectsAll way d W
respects_behind way d W V h r = record { each = λ v b. further_trans way W V (assigned v) h (r.each v b) }

pub respects_after : (way : Direction) (d : Parts) (before after : Assignment) → AreWired d → Respects way d before → IsStep way d before after → Respects way d after
respects_after way d before after ws r s =
    respects_apart way d after (respects_behind way d after (operator d before) s.no_further (respects_step way d before ws (respects_together way d before r)))

pub fits_after : (way : Direction) (d : Parts) (before after : Assignment) → AreWired d → IsStep way d before after → NoFurther way after (operator d after)
fits_after way d before after ws s =
    further_trans way after (operator d before) (operator d after) s.no_further (further_mono way d before after ws s.onward)
