-- Numbers of words, the bounds that they stand for, and runs by words.
use Rattle.std.proofs.Common.{◌≡◌, ℕ, zero, suc, ◌+◌, ◌*◌, ◌/◌, ◌%◌, ◌<◌, ◌≤◌, ◌⊎◌, inl, inr, refl, sym, ap, subst, ◌∙◌, List, [], ◌∷◌, length, get_or, ℤ, ◌≤ℤ◌, arith}
use Rattle.std.specs.Prelude.{◌↔◌, min, max}
use Rattle.std.specs.List.{All}
use Rattle.std.proofs.lemmas.Int.{ints}
use Rattle.std.proofs.lemmas.Bool.{cases_lt}
use Rattle.std.proofs.lemmas.List.{get_or_past}
use Rattle.std.proofs.lemmas.List.Elements.{All-head, All-tail}
use Rattle.xt_model.specs.declared.direction.Direction.{Direction}
use Rattle.xt_model.specs.declared.direction.Direction.TheVariants.{Widen, Narrow}
use Rattle.xt_model.specs.declared.edge.Edge.{Edge}
use Rattle.xt_model.specs.declared.quad.Quad.{Quad}
use Rattle.xt_model.specs.declared.quad.Pair.{Pair}
use Rattle.xt_model.specs.Quads.{bottom, IsBound, IsPairInRange}
use Rattle.xt_model.specs.Parts.{Parts}
use Rattle.xt_model.specs.Assign.{Assignment, assigned, edge_number, word_number, edge_of, side_of, words_of, quads_of}
use Rattle.xt_meaning.specs.Operator.{operator}
use Rattle.xt_meaning.specs.Reads.{HoldsOfReads}
use Rattle.xt_meaning.specs.Barrier.{IsNoFurther, NoFurther, IsBoundNoFurther, RespectsAt}
use Rattle.xt_meaning.specs.Words.{bound_in, number_for, quiet_number, number_at, bounds_in, numbers_of, onward, AreNoFurther, further, furthest_from, furthest}
use Rattle.xt_meaning.specs.Laws.{IsStep}
use Rattle.xt_meaning.proofs.Growth.{AreWired}
use Rattle.xt_meaning.proofs.Words.{words_from_quads, word_from_quads, quad_from_words, quads_of_words}
use Rattle.xt_meaning.proofs.Steps.{NoFurtherAt, operator_no_further_at, bound_refl, respects_of_words, respects_apart, respects_after, fits_after}

-- ---- words of quads
quad_side : (f : ℕ → ℤ) (n : ℕ) (e : Edge) (s : ℕ) → s < 4 → side_of (quads_of f n e) s ≡ f (word_number n e s)
quad_side f n e zero h = refl
quad_side f n e (suc zero) h = refl
quad_side f n e (suc (suc zero)) h = refl
quad_side f n e (suc (suc (suc zero))) h = refl
quad_side f n e (suc (suc (suc (suc s)))) h = absurd (omega arith)

number_of_edge : (m : ℕ) → m < 2 → edge_number (edge_of m) ≡ m
number_of_edge zero h = refl
number_of_edge (suc zero) h = refl
number_of_edge (suc (suc m)) h = absurd (omega arith)

word_whole : (word : ℕ) → word_number (word / 8) (edge_of (word / 4 % 2)) (word % 4) ≡ word
word_whole word = let e = number_of_edge (word / 4 % 2) (omega arith) in omega (arith, e)

pub words_of_quads : (f : ℕ → ℤ) (word : ℕ) → words_of (quads_of f) word ≡ f word
words_of_quads f word = quad_side f (word / 8) (edge_of (word / 4 % 2)) (word % 4) (omega arith) ∙ ap f (word_whole word)

-- ---- no further, by words and by windows
pub windows_by_words : (way : Direction) (W V : Assignment) → AreNoFurther way (words_of W) (words_of V) → NoFurther way W V
windows_by_words way W V h = record {
  each = λ n e.
      let P : Quad → Type 0 = λ q. IsNoFurther way q (V n e) in
      subst P (quads_of_words W n e) (quad_from_words way (words_of W) V n e (λ word at. h word));
}

no_further_quad : (way : Direction) (f g : ℕ → ℤ) (n : ℕ) (e : Edge) → ((word : ℕ) → word / 8 ≡ n → IsBoundNoFurther way (word % 2) (f word) (g word)) → IsNoFurther way (quads_of f n e) (quads_of g n e)
no_further_quad way f g n e h =
    quad_from_words way f (quads_of g) n e (λ word at. let P : ℤ → Type 0 = λ b. IsBoundNoFurther way (word % 2) (f word) b in subst P (sym (words_of_quads g word)) (h word at))

pub quads_no_further : (way : Direction) (f g : ℕ → ℤ) → AreNoFurther way f g → NoFurther way (quads_of f) (quads_of g)
quads_no_further way f g h = record { each = λ n e. no_further_quad way f g n e (λ word at. h word) }

pub words_no_further : (way : Direction) (f g : ℕ → ℤ) → NoFurther way (quads_of f) (quads_of g) → AreNoFurther way f g
words_no_further way f g h word =
    let P : ℤ → Type 0 = λ b. IsBoundNoFurther way (word % 2) b (g word) in
    let Q : ℤ → Type 0 = λ b. IsBoundNoFurther way (word % 2) (words_of (quads_of f) word) b in
    subst P (words_of_quads f word) (subst Q (words_of_quads g word) (words_from_quads way (quads_of f) (quads_of g) h word))

-- ---- numbers and bounds
pub numbers_order : (m n : ℕ) → (bound_in m ≤ℤ bound_in n) ↔ (m ≤ n)
numbers_order m n = (λ h. omega (arith, ints, h), λ h. omega (arith, ints, h))

pub bound_there : (b : ℤ) → IsBound b → (bound_in (number_for b) ≡ b) × (number_for b ≤ 9223372036854775808)
bound_there b h = (omega (arith, ints, h.low, h.high), omega (arith, ints, h.low, h.high))

pub number_back : (n : ℕ) → n ≤ 9223372036854775808 → IsBound (bound_in n) × (number_for (bound_in n) ≡ n)
number_back n h = (record { low = omega (arith, ints); high = omega (arith, ints) }, omega (arith, ints))

-- ---- numbers of windows
pub numbers_count : (v : List Pair) → length (numbers_of v) ≡ 8 * length v
numbers_count [] = omega arith
numbers_count (p ∷ v) = let h = numbers_count v in omega (arith, h)

next_word : (p : Pair) (v : List Pair) (w u : ℕ) → u ≡ 8 + w → words_of (assigned (p ∷ v)) u ≡ words_of (assigned v) w
next_word p v w u e =
    let a : u / 8 ≡ suc (w / 8) = omega arith in
    let b : u / 4 % 2 ≡ w / 4 % 2 = omega arith in
    let c : u % 4 ≡ w % 4 = omega arith in
    rw (a, b, c) refl

next_number : (p : Pair) (v : List Pair) (w u : ℕ) → u ≡ 8 + w → number_at (numbers_of (p ∷ v)) u ≡ number_at (numbers_of v) w
next_number p v w u e =
    let P : ℕ → Type 0 = λ i. get_or (numbers_of (p ∷ v)) i (quiet_number (i % 2)) ≡ number_at (numbers_of v) w in
    let b : (8 + w) % 2 ≡ w % 2 = omega arith in
    let Q : ℕ → Type 0 = λ s. get_or (numbers_of (p ∷ v)) (8 + w) (quiet_number s) ≡ number_at (numbers_of v) w in
    subst P (sym e) (subst Q (sym b) (shifted (quiet_number (w % 2)))) where
      shifted : (x : ℕ) → get_or (numbers_of (p ∷ v)) (8 + w) x ≡ get_or (numbers_of v) w x
      shifted x = let k : 8 + w ≡ suc (suc (suc (suc (suc (suc (suc (suc w))))))) = omega arith in let R : ℕ → Type 0 = λ i. get_or (numbers_of (p ∷ v)) i x ≡ get_or (numbers_of v) w x in subst R (sym k) refl

pub numbers_each : (v : List Pair) (word : ℕ) → All IsPairInRange v → bounds_in (numbers_of v) word ≡ words_of (assigned v) word
numbers_each [] word h = quiet_word word
  where
    quiet_side : (s : ℕ) → s < 4 → bound_in (quiet_number (s % 2)) ≡ side_of bottom s
    quiet_side zero k = refl
    quiet_side (suc zero) k = refl
    quiet_side (suc (suc zero)) k = refl
    quiet_side (suc (suc (suc zero))) k = refl
    quiet_side (suc (suc (suc (suc s)))) k = absurd (omega arith)

    quiet_word : (i : ℕ) → bound_in (quiet_number (i % 2)) ≡ side_of bottom (i % 4)
    quiet_word i = let e : i % 4 % 2 ≡ i % 2 = omega arith in let P : ℕ → Type 0 = λ s. bound_in (quiet_number s) ≡ side_of bottom (i % 4) in subst P e (quiet_side (i % 4) (omega arith))
numbers_each (p ∷ v) zero h = (bound_there p.rise.tlo (All-head IsPairInRange p v h).rise.tlo).0
numbers_each (p ∷ v) (suc zero) h = (bound_there p.rise.thi (All-head IsPairInRange p v h).rise.thi).0
numbers_each (p ∷ v) (suc (suc zero)) h = (bound_there p.rise.slo (All-head IsPairInRange p v h).rise.slo).0
numbers_each (p ∷ v) (suc (suc (suc zero))) h = (bound_there p.rise.shi (All-head IsPairInRange p v h).rise.shi).0
numbers_each (p ∷ v) (suc (suc (suc (suc zero)))) h = (bound_there p.fall.tlo (All-head IsPairInRange p v h).fall.tlo).0
numbers_each (p ∷ v) (suc (suc (suc (suc (suc zero))))) h = (bound_there p.fall.thi (All-head IsPairInRange p v h).fall.thi).0
numbers_each (p ∷ v) (suc (suc (suc (suc (suc (suc zero)))))) h = (bound_there p.fall.slo (All-head IsPairInRange p v h).fall.slo).0
numbers_each (p ∷ v) (suc (suc (suc (suc (suc (suc (suc zero))))))) h = (bound_there p.fall.shi (All-head IsPairInRange p v h).fall.shi).0
numbers_each (p ∷ v) (suc (suc (suc (suc (suc (suc (suc (suc w)))))))) h =
    let u = suc (suc (suc (suc (suc (suc (suc (suc w))))))) in
    let e : u ≡ 8 + w = omega arith in
    ap bound_in (next_number p v w u e) ∙ (numbers_each v w (All-tail IsPairInRange p v h) ∙ sym (next_word p v w u e))

pub past_numbers : (numbers : List ℕ) (word : ℕ) → length numbers ≤ word → bounds_in numbers word ≡ words_of (assigned []) word
past_numbers numbers word h = ap bound_in (get_or_past numbers word (quiet_number (word % 2)) h) ∙ numbers_each [] word (λ k x i. absurd (omega arith))

-- ---- the further of two
pub further_one : (way : Direction) (side m n : ℕ) → (further way side m n ≡ m) ⊎ (further way side m n ≡ n)
further_one Widen zero m n = elim (cases_lt m n) [ inl p ↦ inl (omega arith) | inr p ↦ inr (omega arith) ]
further_one Widen (suc s) m n = elim (cases_lt m n) [ inl p ↦ inr (omega arith) | inr p ↦ inl (omega arith) ]
further_one Narrow zero m n = elim (cases_lt m n) [ inl p ↦ inr (omega arith) | inr p ↦ inl (omega arith) ]
further_one Narrow (suc s) m n = elim (cases_lt m n) [ inl p ↦ inl (omega arith) | inr p ↦ inr (omega arith) ]

pub further_first : (way : Direction) (side m n : ℕ) → IsBoundNoFurther way side (bound_in m) (bound_in (further way side m n))
further_first Widen zero m n = let k : min m n ≤ m = omega arith in omega (arith, ints, k)
further_first Widen (suc s) m n = let k : m ≤ max m n = omega arith in omega (arith, ints, k)
further_first Narrow zero m n = let k : m ≤ max m n = omega arith in omega (arith, ints, k)
further_first Narrow (suc s) m n = let k : min m n ≤ m = omega arith in omega (arith, ints, k)

pub further_second : (way : Direction) (side m n : ℕ) → IsBoundNoFurther way side (bound_in n) (bound_in (further way side m n))
further_second Widen zero m n = let k : min m n ≤ n = omega arith in omega (arith, ints, k)
further_second Widen (suc s) m n = let k : n ≤ max m n = omega arith in omega (arith, ints, k)
further_second Narrow zero m n = let k : n ≤ max m n = omega arith in omega (arith, ints, k)
further_second Narrow (suc s) m n = let k : min m n ≤ n = omega arith in omega (arith, ints, k)

pub further_least : (way : Direction) (side m n : ℕ) (b : ℤ) → IsBoundNoFurther way side (bound_in m) b → IsBoundNoFurther way side (bound_in n) b
    → IsBoundNoFurther way side (bound_in (further way side m n)) b
further_least way side m n b h k =
    let P : ℕ → Type 0 = λ i. IsBoundNoFurther way side (bound_in i) b in
    elim (further_one way side m n) [ inl e ↦ subst P (sym e) h | inr e ↦ subst P (sym e) k ]

further_same : (way : Direction) (side n : ℕ) → n ≡ further way side n n
further_same way side n = elim (further_one way side n n) [ inl e ↦ sym e | inr e ↦ sym e ]

furthest_at : (way : Direction) (k : ℕ) (ms ns : List ℕ) (j x : ℕ) → length ms ≡ length ns → get_or (furthest_from way k ms ns) j x ≡ further way ((k + j) % 2) (get_or ms j x) (get_or ns j x)
furthest_at way k [] [] j x e = further_same way ((k + j) % 2) x
furthest_at way k [] (n ∷ ns) j x e = absurd (omega arith)
furthest_at way k (m ∷ ms) [] j x e = absurd (omega arith)
furthest_at way k (m ∷ ms) (n ∷ ns) zero x e =
    let a : k ≡ k + 0 = omega arith in
    let P : ℕ → Type 0 = λ i. further way (k % 2) m n ≡ further way (i % 2) m n in
    subst P a refl
furthest_at way k (m ∷ ms) (n ∷ ns) (suc j) x e =
    let a : (k + 1) + j ≡ k + suc j = omega arith in
    let P : ℕ → Type 0 = λ i. get_or (furthest_from way (k + 1) ms ns) j x ≡ further way (i % 2) (get_or ms j x) (get_or ns j x) in
    subst P a (furthest_at way (k + 1) ms ns j x (omega arith))

pub furthest_each : (way : Direction) (ms ns : List ℕ) (word : ℕ) → length ms ≡ length ns → number_at (furthest way ms ns) word ≡ further way (word % 2) (number_at ms word) (number_at ns word)
furthest_each way ms ns word e =
    let a : 0 + word ≡ word = omega arith in
    let x = quiet_number (word % 2) in
    let P : ℕ → Type 0 = λ i. get_or (furthest_from way 0 ms ns) word x ≡ further way (i % 2) (get_or ms word x) (get_or ns word x) in
    subst P a (furthest_at way 0 ms ns word x e)

-- ---- the operator at a word
pub onward_mono_at : (R : ℕ → Type 0) (way : Direction) (d : Parts) (f g : ℕ → ℤ) (word : ℕ) → AreWired d → HoldsOfReads R d (word / 8)
    → ((w : ℕ) → R (w / 8) → IsBoundNoFurther way (w % 2) (f w) (g w)) → IsBoundNoFurther way (word % 2) (onward d f word) (onward d g word)
onward_mono_at R way d f g word ws reads h =
    let at : NoFurtherAt R way (quads_of f) (quads_of g) = record { each = λ m e t. no_further_quad way f g m e (λ w is. h w (subst R (sym is) t)) } in
    word_from_quads way (operator d (quads_of f)) (operator d (quads_of g)) word (operator_no_further_at R way d (quads_of f) (quads_of g) (word / 8) (edge_of (word / 4 % 2)) ws reads at)

bound_antisym : (s : ℕ) (a b : ℤ) → IsBoundNoFurther Widen s a b → IsBoundNoFurther Widen s b a → a ≡ b
bound_antisym zero a b h k = omega (arith, ints, h, k)
bound_antisym (suc s) a b h k = omega (arith, ints, h, k)

bound_same : (s : ℕ) (a b : ℤ) → a ≡ b → IsBoundNoFurther Widen s a b
bound_same s a b e = let P : ℤ → Type 0 = λ c. IsBoundNoFurther Widen s a c in subst P e (bound_refl Widen s a)

pub onward_same_at : (R : ℕ → Type 0) (d : Parts) (f g : ℕ → ℤ) (word : ℕ) → AreWired d → HoldsOfReads R d (word / 8) → ((w : ℕ) → R (w / 8) → f w ≡ g w) → onward d f word ≡ onward d g word
onward_same_at R d f g word ws reads h =
    bound_antisym (word % 2) (onward d f word) (onward d g word)
    (onward_mono_at R Widen d f g word ws reads (λ w t. bound_same (w % 2) (f w) (g w) (h w t)))
    (onward_mono_at R Widen d g f word ws reads (λ w t. bound_same (w % 2) (g w) (f w) (sym (h w t))))

-- ---- a step by words
module _ (way : Direction) (d : Parts) (f g : ℕ → ℤ) (ws : AreWired d) (r : (word : ℕ) → RespectsAt way d word (f word))
    (onto : AreNoFurther way f g) (behind : AreNoFurther way g (onward d f)) where
  step_by_words : IsStep way d (quads_of f) (quads_of g)
  step_by_words = record {
    onward = quads_no_further way f g onto;
    no_further = record { each = λ n e. quad_from_words way g (operator d (quads_of f)) n e (λ word at. behind word) };
  }

  pub words_respect_on : (word : ℕ) → RespectsAt way d word (g word)
  words_respect_on word =
      let before = respects_apart way d (quads_of f) (respects_of_words way d f r) in
      let after = respects_after way d (quads_of f) (quads_of g) ws before step_by_words in
      let P : ℤ → Type 0 = λ b. RespectsAt way d word b in
      subst P (words_of_quads g word) (after.each word)

  pub words_fit_on : AreNoFurther way g (onward d g)
  words_fit_on word =
      let k = fits_after way d (quads_of f) (quads_of g) ws step_by_words in
      let P : ℤ → Type 0 = λ b. IsBoundNoFurther way (word % 2) b (onward d g word) in
      subst P (words_of_quads g word) (words_from_quads way (quads_of g) (operator d (quads_of g)) k word)
