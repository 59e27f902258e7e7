-- Sums over nodes and over paths.
use Rattle.std.proofs.Common.{◌≡◌, ◌≢◌, ℕ, zero, suc, ◌+◌, ◌*◌, ◌<◌, ◌≤◌, ◌^◌, false, cond, eqb, ◌||◌, List, [], ◌∷◌, length, refl, sym, ap, ◌∙◌, arith, inl, inr}
use Rattle.std.proofs.lemmas.Bool.{cases_eq, or_parts, cases_Bool}
use Rattle.std.proofs.lemmas.List.Sums.{sum_by-cons}
use Rattle.elmore_tree.specs.Trees.{TreeParts}
use Rattle.elmore_tree.specs.Paths.{is_on}
use Rattle.elmore_tree.specs.Sums.{sum_below, shared, resistance}
use Rattle.elmore_tree.proofs.Bools.{not_both, eqb_same, eqb_apart, eqb_is}

-- ---- sums over the numbers below n
pub below_same : (f h : ℕ → ℕ) (n : ℕ) → ((k : ℕ) → k < n → f k ≡ h k) → sum_below f n ≡ sum_below h n
below_same f h zero e = refl
below_same f h (suc n) e =
    let rest : sum_below f n ≡ sum_below h n = below_same f h n (λ k lt. e k (omega arith)) in
    let last : f n ≡ h n = e n (omega arith) in
    omega arith

pub below_added : (f h : ℕ → ℕ) (n : ℕ) → sum_below (λ k. f k + h k) n ≡ sum_below f n + sum_below h n
below_added f h zero = refl
below_added f h (suc n) = let rest = below_added f h n in omega (arith, rest)

pub below_scaled : (c : ℕ) (f : ℕ → ℕ) (n : ℕ) → sum_below (λ k. c * f k) n ≡ c * sum_below f n
below_scaled c f zero = omega arith
below_scaled c f (suc n) = let rest = below_scaled c f n in omega (arith, rest)

pub below_most : (f h : ℕ → ℕ) (n : ℕ) → ((k : ℕ) → k < n → f k ≤ h k) → sum_below f n ≤ sum_below h n
below_most f h zero e = omega arith
below_most f h (suc n) e =
    let rest : sum_below f n ≤ sum_below h n = below_most f h n (λ k lt. e k (omega arith)) in
    let last : f n ≤ h n = e n (omega arith) in
    omega arith

pub below_none : (f : ℕ → ℕ) (n : ℕ) → ((k : ℕ) → k < n → f k ≡ 0) → sum_below f n ≡ 0
below_none f zero e = refl
below_none f (suc n) e =
    let rest : sum_below f n ≡ 0 = below_none f n (λ k lt. e k (omega arith)) in
    let last : f n ≡ 0 = e n (omega arith) in
    omega arith

-- one term more by v
pub below_bumped : (f h : ℕ → ℕ) (n a v : ℕ) → a < n → h a ≡ f a + v → ((k : ℕ) → k ≢ a → h k ≡ f k) → sum_below h n ≡ sum_below f n + v
below_bumped f h zero a v lt here rest = absurd (omega arith)
below_bumped f h (suc n) a v lt here rest =
    elim (cases_eq a n) [
      | inl e ↦
          let before : sum_below h n ≡ sum_below f n = below_same h f n (λ k within. rest k (λ same. absurd (omega arith))) in
          let last : h n ≡ f n + v = rw e at here in
          omega arith
      | inr ne ↦
          let before : sum_below h n ≡ sum_below f n + v = below_bumped f h n a v (omega arith) here rest in
          let last : h n ≡ f n = rest n (λ same. ne (sym same)) in
          omega arith
    ]

pub below_one : (f : ℕ → ℕ) (n a : ℕ) → a < n → ((k : ℕ) → k ≢ a → f k ≡ 0) → sum_below f n ≡ f a
below_one f n a lt rest =
    let zeros : sum_below (λ _. 0) n ≡ 0 = below_none (λ _. 0) n (λ k h. refl) in
    let one : sum_below f n ≡ sum_below (λ _. 0) n + f a = below_bumped (λ _. 0) f n a (f a) lt (omega arith) rest in
    omega arith

-- two terms are at most the sum
pub below_two : (f : ℕ → ℕ) (n a b : ℕ) → a < n → b < n → a ≢ b → f a + f b ≤ sum_below f n
below_two f zero a b la lb ne = absurd (omega arith)
below_two f (suc n) a b la lb ne =
    elim (cases_eq a n) [
      | inl e ↦ let one = below_has f n b (let differ : b ≢ n = λ same. ne (e ∙ sym same) in omega arith) in rw e (omega (arith, one))
      | inr na ↦ elim (cases_eq b n) [
        | inl e ↦ let one = below_has f n a (omega arith) in rw e (omega (arith, one))
        | inr nb ↦ let both = below_two f n a b (omega arith) (omega arith) ne in omega (arith, both)
      ]
    ]
  where
    below_has : (f : ℕ → ℕ) (n a : ℕ) → a < n → f a ≤ sum_below f n
    below_has f zero a lt = absurd (omega arith)
    below_has f (suc n) a lt = elim (cases_eq a n) [
      | inl e ↦ rw e (omega arith)
      | inr ne ↦ let rest = below_has f n a (omega arith) in omega (arith, rest)
    ]

-- ---- the resistance that paths share
abbrev pub term : TreeParts → List ℕ → ℕ → ℕ
term t q j = cond (is_on q j) (resistance t j) 0

pub shared_more : (t : TreeParts) (j : ℕ) (p q : List ℕ) → shared t (j ∷ p) q ≡ term t q j + shared t p q
shared_more t j p q = sum_by-cons (term t q) j p

pub shared_nothing : (t : TreeParts) (p : List ℕ) → shared t p [] ≡ 0
shared_nothing t [] = refl
shared_nothing t (j ∷ p) = let rest = shared_nothing t p in let e = shared_more t j p [] in let none : term t [] j ≡ 0 = refl in omega arith

-- no resistor stands twice
abbrev pub IsOnce : List ℕ → Type 0
IsOnce [] = Unit {0}
IsOnce (j ∷ p) = (is_on p j ≡ false) × IsOnce p

-- a resistor that goes before the other path adds its resistance where the first path has it
pub shared_apart : (t : TreeParts) (j : ℕ) (p q : List ℕ) → is_on p j ≡ false → shared t p (j ∷ q) ≡ shared t p q
shared_apart t j [] q h = refl
shared_apart t j (i ∷ p) q h =
    let parts : (eqb i j ≡ false) × (is_on p j ≡ false) = or_parts (eqb i j) (is_on p j) h in
    let differ : eqb j i ≡ false = eqb_apart j i (λ e. not_both (eqb i j) (rw e (eqb_same i)) parts.0) in
    let one : term t (j ∷ q) i ≡ term t q i = ap (λ b. cond (b || is_on q i) (resistance t i) 0) differ in
    let rest : shared t p (j ∷ q) ≡ shared t p q = shared_apart t j p q parts.1 in
    let a = shared_more t i p (j ∷ q) in
    let b = shared_more t i p q in
    omega arith

shared_with : (t : TreeParts) (j : ℕ) (p q : List ℕ) → IsOnce p → is_on q j ≡ false → shared t p (j ∷ q) ≡ shared t p q + term t p j
shared_with t j [] q once h = omega arith
shared_with t j (i ∷ p) q once h =
    let a = shared_more t i p (j ∷ q) in
    let b = shared_more t i p q in
    elim (cases_Bool (eqb i j)) [
      | inl same ↦
          let e : i ≡ j = eqb_is i j same in
          let gone : is_on p j ≡ false = rw (← e) once.0 in
          let rest : shared t p (j ∷ q) ≡ shared t p q = shared_apart t j p q gone in
          let term_is : term t (j ∷ q) i ≡ resistance t j = ap (λ m. term t (j ∷ q) m) e ∙ ap (λ b. cond (b || is_on q j) (resistance t j) 0) (eqb_same j) in
          let lost : term t q i ≡ 0 = ap (λ m. term t q m) e ∙ ap (λ b. cond b (resistance t j) 0) h in
          let its : term t (i ∷ p) j ≡ resistance t j = ap (λ b. cond (b || is_on p j) (resistance t j) 0) same in
          omega arith
      | inr differs ↦
          let other : eqb j i ≡ false = eqb_apart j i (λ e. not_both (eqb i j) (rw e (eqb_same i)) differs) in
          let one : term t (j ∷ q) i ≡ term t q i = ap (λ b. cond (b || is_on q i) (resistance t i) 0) other in
          let rest : shared t p (j ∷ q) ≡ shared t p q + term t p j = shared_with t j p q once.1 h in
          let its : term t (i ∷ p) j ≡ term t p j = ap (λ b. cond (b || is_on p j) (resistance t j) 0) differs in
          omega arith
    ]

-- two paths share the same either way
pub shared_swaps : (t : TreeParts) (p q : List ℕ) → IsOnce p → IsOnce q → shared t p q ≡ shared t q p
shared_swaps t [] q op oq = sym (shared_nothing t q)
shared_swaps t (j ∷ p) q op oq =
    let a = shared_more t j p q in
    let rest : shared t p q ≡ shared t q p = shared_swaps t p q op.1 oq in
    let b : shared t q (j ∷ p) ≡ shared t q p + term t q j = shared_with t j q p oq op.0 in
    omega arith

-- a path of n resistors shares at most n times 2^40
pub shared_most : (t : TreeParts) (p q : List ℕ) → ((j : ℕ) → resistance t j ≤ 2 ^ 40) → shared t p q ≤ length p * 2 ^ 40
shared_most t [] q most = omega arith
shared_most t (j ∷ p) q most =
    let a = shared_more t j p q in
    let rest : shared t p q ≤ length p * 2 ^ 40 = shared_most t p q most in
    let one : term t q j ≤ 2 ^ 40 = elim (cases_Bool (is_on q j)) [
      | inl on ↦ rw on (most j)
      | inr off ↦ rw off (omega arith)
    ] in
    omega arith
