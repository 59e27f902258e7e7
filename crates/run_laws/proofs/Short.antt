-- A chain that is still nowhere before its end is short: each block of as many rounds as there are levels changes an
-- answer.
use Rattle.std.proofs.Common.{◌≡◌, ℕ, zero, suc, ◌+◌, ◌-◌, ◌*◌, ◌<◌, ◌≤◌, inl, inr, sym, ap, subst, ◌∙◌, List, length, arith}
use Rattle.std.proofs.lemmas.Bool.{cases_lt}
use Rattle.xt_model.specs.declared.direction.Direction.{Direction}
use Rattle.xt_model.specs.Levels.{greatest_of, AreLevels, ArePairs, bound_of}
use Rattle.xt_model.specs.Parts.{Parts}
use Rattle.xt_model.specs.Sound.{IsSound}
use Rattle.xt_model.specs.Assign.{Assignment}
use Rattle.xt_meaning.specs.Operator.{operator}
use Rattle.xt_meaning.specs.Barrier.{NoFurther}
use Rattle.xt_meaning.proofs.Growth.{wired}
use Rattle.xt_meaning.proofs.Steps.{further_refl, further_trans}
use Rattle.run_laws.specs.Chains.{IsStill, IsChain}
use Rattle.run_laws.proofs.Blocks.{block_still}
use Rattle.run_laws.proofs.Counts.{left, left_small, left_falls, left_same}

-- one block more
times_more : (a k : ℕ) → suc a * k ≡ a * k + k
times_more a k = omega arith

block_more : (most k : ℕ) → (suc most + 1) * k ≡ (most + 1) * k + k
block_more most k = let n : suc most + 1 ≡ suc (most + 1) = omega arith in ap (λ a. a * k) n ∙ times_more (most + 1) k

-- ---- parts of a chain
first_part : (way : Direction) (d : Parts) (s : ℕ → Assignment) (count fewer : ℕ) → fewer ≤ count → IsChain way d s count → IsChain way d s fewer
first_part way d s count fewer h c = record {
  fits = λ i k. c.fits i (omega (arith, h, k));
  onward = λ i k. c.onward i (omega (arith, h, k));
  past = λ i k. c.past i (omega (arith, h, k));
  outside = λ i n e k. c.outside i n e (omega (arith, h, k));
}

later_part : (way : Direction) (d : Parts) (s : ℕ → Assignment) (count from : ℕ) → from ≤ count → IsChain way d s count → IsChain way d (λ i. s (from + i)) (count - from)
later_part way d s count from h c = record {
  fits = λ i k. c.fits (from + i) (omega (arith, h, k));
  onward = λ i k.
      let e : (from + i) + 1 ≡ from + (i + 1) = omega arith in
      subst (λ j. NoFurther way (s (from + i)) (s j)) e (c.onward (from + i) (omega (arith, h, k)));
  past = λ i k.
      let e : (from + i) + 1 ≡ from + (i + 1) = omega arith in
      subst (λ j. NoFurther way (operator d (s (from + i))) (s j)) e (c.past (from + i) (omega (arith, h, k)));
  outside = λ i n e k. c.outside (from + i) n e (omega (arith, h, k));
}

-- windows later in a chain are at or past earlier ones
all_onward : (way : Direction) (d : Parts) (s : ℕ → Assignment) (count i more : ℕ) → i + more ≤ count → IsChain way d s count → NoFurther way (s i) (s (i + more))
all_onward way d s count i zero h c = let e : i ≡ i + 0 = omega arith in subst (λ j. NoFurther way (s i) (s j)) e (further_refl way (s i))
all_onward way d s count i (suc more) h c =
    let e : (i + more) + 1 ≡ i + suc more = omega arith in
    let before = all_onward way d s count i more (omega (arith, h)) c in
    let one = c.onward (i + more) (omega (arith, h)) in
    subst (λ j. NoFurther way (s i) (s j)) e (further_trans way (s i) (s (i + more)) (s ((i + more) + 1)) before one)

module _ (way : Direction) (d : Parts) (ls : List ℕ) (pairs : List (ℕ × ℕ)) (sound : IsSound d) (levels : AreLevels d.nets ls) (are : ArePairs d.nets pairs) where
  -- in a block after which as many answers can still change, none has changed, and its end is still
  block_ends : (s : ℕ → Assignment) → IsChain way d s (greatest_of ls) → left way d pairs (s 0) ≤ left way d pairs (s (greatest_of ls)) → IsStill d (s (greatest_of ls))
  block_ends s c h =
      let k = greatest_of ls in
      block_still way d ls pairs s sound levels are c (λ i most.
      let from = all_onward way d s k 0 i (omega (arith, most)) c in
      let z : 0 + i ≡ i = omega arith in
      let start : NoFurther way (s 0) (s i) = subst (λ j. NoFurther way (s 0) (s j)) z from in
      let to = all_onward way d s k i (k - i) (omega (arith, most)) c in
      let y : i + (k - i) ≡ k = omega (arith, most) in
      let end : NoFurther way (s i) (s k) = subst (λ j. NoFurther way (s i) (s j)) y to in
      let a = left_falls way d pairs (s i) (s k) (wired d sound) end in
      left_same way d pairs (s 0) (s i) (wired d sound) start (omega (arith, a, h)))

  -- after a long block fewer answers can still change
  block_changes : (s : ℕ → Assignment) (count : ℕ) → IsChain way d s count → greatest_of ls < count → ((i : ℕ) → i < count → IsStill d (s i) → ⊥) → left way d pairs (s (greatest_of ls)) < left way d pairs (s 0)
  block_changes s count c long open_each = elim (cases_lt (left way d pairs (s (greatest_of ls))) (left way d pairs (s 0))) [
    | inl less ↦ less
    | inr same ↦ absurd (open_each (greatest_of ls) long (block_ends s (first_part way d s count (greatest_of ls) (omega (arith, long)) c) same))
  ]

  -- with so many answers that can still change, a chain has one block for each of them, and one more
  blocks : (most : ℕ) (s : ℕ → Assignment) (count : ℕ) → left way d pairs (s 0) ≤ most → IsChain way d s count → ((i : ℕ) → i < count → IsStill d (s i) → ⊥) → count ≤ (most + 1) * greatest_of ls
  blocks zero s count few c open_each = elim (cases_lt (greatest_of ls) count) [
    | inl long ↦ let h = block_changes s count c long open_each in absurd (omega (arith, h, few))
    | inr short ↦ let e : (0 + 1) * greatest_of ls ≡ greatest_of ls = omega arith in omega (arith, e, short)
  ]
  blocks (suc most) s count few c open_each = elim (cases_lt (greatest_of ls) count) [
    | inl long ↦
        let k = greatest_of ls in
        let h = block_changes s count c long open_each in
        let z : k + 0 ≡ k = omega arith in
        let less : left way d pairs (s (k + 0)) ≤ most = subst (λ j. left way d pairs (s j) ≤ most) (sym z) (omega (arith, h, few)) in
        let rest = blocks most (λ i. s (k + i)) (count - k) less (later_part way d s count k (omega (arith, long)) c) (λ i lt. open_each (k + i) (omega (arith, lt, long))) in
        more_block most k count rest
    | inr short ↦ one_block most (greatest_of ls) count short
  ] where
    more_block : (most k count : ℕ) → count - k ≤ (most + 1) * k → count ≤ (suc most + 1) * k
    more_block most k count h = let e = block_more most k in omega (arith, e, h)

    one_block : (most k count : ℕ) → count ≤ k → count ≤ (suc most + 1) * k
    one_block most k count h = let e = block_more most k in omega (arith, e, h)

  pub chain_is_short : (s : ℕ → Assignment) (count : ℕ) → IsChain way d s count → ((i : ℕ) → i < count → IsStill d (s i) → ⊥) → count ≤ bound_of (length pairs) (greatest_of ls)
  chain_is_short s count c open_each = blocks (4 * length pairs) s count (left_small way d pairs (s 0)) c open_each
