-- Laws of the least and the greatest value over the whole points of a box.
use Rattle.std.proofs.Common.{◌≡◌, ℕ, zero, suc, ◌≤◌, ◌⊎◌, inl, inr, refl, sym, ◌∙◌, subst, ℤ, pos, ◌+ℤ◌, ◌≤ℤ◌, arith}
use Rattle.std.specs.Int.{int_min, int_max}
use Rattle.std.proofs.lemmas.Bool.{cases_lt}
use Rattle.std.proofs.lemmas.Int.{ints, clamps}
use Rattle.xt_model.specs.Tables.{TableParts}
use Rattle.xt_meaning.specs.Lookup.{Box, least_of, greatest_of, steps_between, least_over, greatest_over, table_value, slew_value}

-- ---- along one line of values
last_or_before : (n i : ℕ) → i ≤ suc n → (i ≤ n) ⊎ (i ≡ suc n)
last_or_before n i h = elim (cases_lt n i) [ inl p ↦ inr (omega arith) | inr p ↦ inl p ]

pub least_of_below : (f : ℕ → ℤ) (n i : ℕ) → i ≤ n → least_of f n ≤ℤ f i
least_of_below f zero i h = let e : 0 ≡ i = omega arith in let P : ℕ → Type 0 = λ j. f 0 ≤ℤ f j in subst P e (omega (arith, ints))
least_of_below f (suc n) i h = elim (last_or_before n i h) [
  | inl p ↦ let k : least_of f n ≤ℤ f i = least_of_below f n i p in omega (arith, ints, clamps)
  | inr e ↦ let P : ℕ → Type 0 = λ j. int_min (least_of f n) (f (suc n)) ≤ℤ f j in subst P (sym e) (omega (arith, ints, clamps))
]

pub least_of_most : (f : ℕ → ℤ) (n : ℕ) (m : ℤ) → ((i : ℕ) → i ≤ n → m ≤ℤ f i) → m ≤ℤ least_of f n
least_of_most f zero m h = h 0 (omega arith)
least_of_most f (suc n) m h =
    let a : m ≤ℤ least_of f n = least_of_most f n m (λ i p. h i (omega arith)) in
    let b : m ≤ℤ f (suc n) = h (suc n) (omega arith) in
    omega (arith, ints, clamps)

pub greatest_of_above : (f : ℕ → ℤ) (n i : ℕ) → i ≤ n → f i ≤ℤ greatest_of f n
greatest_of_above f zero i h = let e : 0 ≡ i = omega arith in let P : ℕ → Type 0 = λ j. f j ≤ℤ f 0 in subst P e (omega (arith, ints))
greatest_of_above f (suc n) i h = elim (last_or_before n i h) [
  | inl p ↦ let k : f i ≤ℤ greatest_of f n = greatest_of_above f n i p in omega (arith, ints, clamps)
  | inr e ↦ let P : ℕ → Type 0 = λ j. f j ≤ℤ int_max (greatest_of f n) (f (suc n)) in subst P (sym e) (omega (arith, ints, clamps))
]

pub greatest_of_least : (f : ℕ → ℤ) (n : ℕ) (m : ℤ) → ((i : ℕ) → i ≤ n → f i ≤ℤ m) → greatest_of f n ≤ℤ m
greatest_of_least f zero m h = h 0 (omega arith)
greatest_of_least f (suc n) m h =
    let a : greatest_of f n ≤ℤ m = greatest_of_least f n m (λ i p. h i (omega arith)) in
    let b : f (suc n) ≤ℤ m = h (suc n) (omega arith) in
    omega (arith, ints, clamps)

-- each whole number from a to b is some steps from a, and each number of steps up to those leads to one
pub steps_reach : (a b x : ℤ) → a ≤ℤ x → x ≤ℤ b → (steps_between a x ≤ steps_between a b) × (a +ℤ pos (steps_between a x) ≡ x)
steps_reach a b x h k = (omega (arith, ints), omega (arith, ints))

pub steps_within : (a b : ℤ) (i : ℕ) → a ≤ℤ b → i ≤ steps_between a b → (a ≤ℤ (a +ℤ pos i)) × ((a +ℤ pos i) ≤ℤ b)
steps_within a b i h k = (omega (arith, ints), omega (arith, ints))

-- ---- along one line of whole points, from a to b
pub least_along_below : (h : ℤ → ℤ) (a b x : ℤ) → a ≤ℤ x → x ≤ℤ b → least_of (λ i. h (a +ℤ pos i)) (steps_between a b) ≤ℤ h x
least_along_below h a b x p q =
    let r = steps_reach a b x p q in
    let P : ℤ → Type 0 = λ y. least_of (λ i. h (a +ℤ pos i)) (steps_between a b) ≤ℤ h y in
    subst P r.1 (least_of_below (λ i. h (a +ℤ pos i)) (steps_between a b) (steps_between a x) r.0)

pub least_along_most : (h : ℤ → ℤ) (a b m : ℤ) → a ≤ℤ b → ((x : ℤ) → a ≤ℤ x → x ≤ℤ b → m ≤ℤ h x) → m ≤ℤ least_of (λ i. h (a +ℤ pos i)) (steps_between a b)
least_along_most h a b m p each = least_of_most (λ i. h (a +ℤ pos i)) (steps_between a b) m (λ i q. let r = steps_within a b i p q in each (a +ℤ pos i) r.0 r.1)

pub greatest_along_above : (h : ℤ → ℤ) (a b x : ℤ) → a ≤ℤ x → x ≤ℤ b → h x ≤ℤ greatest_of (λ i. h (a +ℤ pos i)) (steps_between a b)
greatest_along_above h a b x p q =
    let r = steps_reach a b x p q in
    let P : ℤ → Type 0 = λ y. h y ≤ℤ greatest_of (λ i. h (a +ℤ pos i)) (steps_between a b) in
    subst P r.1 (greatest_of_above (λ i. h (a +ℤ pos i)) (steps_between a b) (steps_between a x) r.0)

pub greatest_along_least : (h : ℤ → ℤ) (a b m : ℤ) → a ≤ℤ b → ((x : ℤ) → a ≤ℤ x → x ≤ℤ b → h x ≤ℤ m) → greatest_of (λ i. h (a +ℤ pos i)) (steps_between a b) ≤ℤ m
greatest_along_least h a b m p each = greatest_of_least (λ i. h (a +ℤ pos i)) (steps_between a b) m (λ i q. let r = steps_within a b i p q in each (a +ℤ pos i) r.0 r.1)

-- ---- over a box
-- a box with a point in it
pub record IsBox (b : Box) : Type 0 where
  pub slews : b.s0 ≤ℤ b.s1
  pub loads : b.c0 ≤ℤ b.c1

-- a point of a box
pub record IsInBox (b : Box) (s c : ℤ) : Type 0 where
  pub s_low : b.s0 ≤ℤ s
  pub s_high : s ≤ℤ b.s1
  pub c_low : b.c0 ≤ℤ c
  pub c_high : c ≤ℤ b.c1

-- the least value is at or below each value
pub least_over_below : (f : ℤ → ℤ → ℤ) (b : Box) (s c : ℤ) → IsInBox b s c → least_over f b ≤ℤ f s c
unfolding least_over
least_over_below f b s c i =
    let row : ℤ → ℤ = λ x. least_of (λ j. f x (b.c0 +ℤ pos j)) (steps_between b.c0 b.c1) in
    let x = least_along_below row b.s0 b.s1 s i.s_low i.s_high in
    let y = least_along_below (f s) b.c0 b.c1 c i.c_low i.c_high in
    omega (arith, ints)

-- what is at or below each value is at or below the least
pub least_over_most : (f : ℤ → ℤ → ℤ) (b : Box) (m : ℤ) → IsBox b → ((s c : ℤ) → IsInBox b s c → m ≤ℤ f s c) → m ≤ℤ least_over f b
unfolding least_over
least_over_most f b m box each =
    least_along_most (λ x. least_of (λ j. f x (b.c0 +ℤ pos j)) (steps_between b.c0 b.c1)) b.s0 b.s1 m box.slews
    (λ s p q. least_along_most (f s) b.c0 b.c1 m box.loads (λ c u v. each s c (record { s_low = p; s_high = q; c_low = u; c_high = v })))

-- the greatest value is at or above each value
pub greatest_over_above : (f : ℤ → ℤ → ℤ) (b : Box) (s c : ℤ) → IsInBox b s c → f s c ≤ℤ greatest_over f b
unfolding greatest_over
greatest_over_above f b s c i =
    let row : ℤ → ℤ = λ x. greatest_of (λ j. f x (b.c0 +ℤ pos j)) (steps_between b.c0 b.c1) in
    let x = greatest_along_above row b.s0 b.s1 s i.s_low i.s_high in
    let y = greatest_along_above (f s) b.c0 b.c1 c i.c_low i.c_high in
    omega (arith, ints)

-- what is at or above each value is at or above the greatest
pub greatest_over_least : (f : ℤ → ℤ → ℤ) (b : Box) (m : ℤ) → IsBox b → ((s c : ℤ) → IsInBox b s c → f s c ≤ℤ m) → greatest_over f b ≤ℤ m
unfolding greatest_over
greatest_over_least f b m box each =
    greatest_along_least (λ x. greatest_of (λ j. f x (b.c0 +ℤ pos j)) (steps_between b.c0 b.c1)) b.s0 b.s1 m box.slews
    (λ s p q. greatest_along_least (f s) b.c0 b.c1 m box.loads (λ c u v. each s c (record { s_low = p; s_high = q; c_low = u; c_high = v })))

-- the first box lies within the second
pub record IsBoxWithin (a b : Box) : Type 0 where
  pub s_low : b.s0 ≤ℤ a.s0
  pub s_high : a.s1 ≤ℤ b.s1
  pub c_low : b.c0 ≤ℤ a.c0
  pub c_high : a.c1 ≤ℤ b.c1

wider : (a b : Box) (s c : ℤ) → IsBoxWithin a b → IsInBox a s c → IsInBox b s c
wider a b s c w i = record { s_low = omega (arith, ints); s_high = omega (arith, ints); c_low = omega (arith, ints); c_high = omega (arith, ints) }

-- a larger box has a least value no higher, and a greatest no lower
pub least_over_larger : (f : ℤ → ℤ → ℤ) (a b : Box) → IsBox a → IsBoxWithin a b → least_over f b ≤ℤ least_over f a
least_over_larger f a b box w = least_over_most f a (least_over f b) box (λ s c i. least_over_below f b s c (wider a b s c w i))

pub greatest_over_larger : (f : ℤ → ℤ → ℤ) (a b : Box) → IsBox a → IsBoxWithin a b → greatest_over f a ≤ℤ greatest_over f b
greatest_over_larger f a b box w = greatest_over_least f a (greatest_over f b) box (λ s c i. greatest_over_above f b s c (wider a b s c w i))

-- the least value is at or below the greatest
pub least_over_greatest : (f : ℤ → ℤ → ℤ) (b : Box) → IsBox b → least_over f b ≤ℤ greatest_over f b
least_over_greatest f b box =
    let i : IsInBox b b.s0 b.c0 = record { s_low = omega (arith, ints); s_high = box.slews; c_low = omega (arith, ints); c_high = box.loads } in
    let x = least_over_below f b b.s0 b.c0 i in
    let y = greatest_over_above f b b.s0 b.c0 i in
    omega (arith, ints)

-- values that are nowhere below those of another function have a least value, and a greatest, that is not below theirs
pub least_over_mono : (f g : ℤ → ℤ → ℤ) (b : Box) → IsBox b → ((s c : ℤ) → IsInBox b s c → f s c ≤ℤ g s c) → least_over f b ≤ℤ least_over g b
least_over_mono f g b box each = least_over_most g b (least_over f b) box (λ s c i. let x = least_over_below f b s c i in let y = each s c i in omega (arith, ints))

pub greatest_over_mono : (f g : ℤ → ℤ → ℤ) (b : Box) → IsBox b → ((s c : ℤ) → IsInBox b s c → f s c ≤ℤ g s c) → greatest_over f b ≤ℤ greatest_over g b
greatest_over_mono f g b box each = greatest_over_least f b (greatest_over g b) box (λ s c i. let x = greatest_over_above g b s c i in let y = each s c i in omega (arith, ints))

-- ---- the same where values below a floor are lifted to it
least_of_lifted : (m : ℤ) (f : ℕ → ℤ) (n : ℕ) → least_of (λ i. int_max m (f i)) n ≡ int_max m (least_of f n)
least_of_lifted m f zero = refl
least_of_lifted m f (suc n) = let h = least_of_lifted m f n in omega (arith, ints, clamps)

greatest_of_lifted : (m : ℤ) (f : ℕ → ℤ) (n : ℕ) → greatest_of (λ i. int_max m (f i)) n ≡ int_max m (greatest_of f n)
greatest_of_lifted m f zero = refl
greatest_of_lifted m f (suc n) = let h = greatest_of_lifted m f n in omega (arith, ints, clamps)

-- the least of functions that agree
least_of_same : (f g : ℕ → ℤ) (n : ℕ) → ((i : ℕ) → f i ≡ g i) → least_of f n ≡ least_of g n
least_of_same f g zero e = e 0
least_of_same f g (suc n) e = let h = least_of_same f g n e in let k = e (suc n) in cc

greatest_of_same : (f g : ℕ → ℤ) (n : ℕ) → ((i : ℕ) → f i ≡ g i) → greatest_of f n ≡ greatest_of g n
greatest_of_same f g zero e = e 0
greatest_of_same f g (suc n) e = let h = greatest_of_same f g n e in let k = e (suc n) in cc

-- the range of a slew table is that of its values, with each end below 0 lifted to 0
pub least_over-slew_value : (t : TableParts) (b : Box) → least_over (slew_value t) b ≡ int_max (pos 0) (least_over (table_value t) b)
unfolding least_over
least_over-slew_value t b =
    least_of_same _ _ (steps_between b.s0 b.s1) (λ i. least_of_lifted (pos 0) (λ j. table_value t (b.s0 +ℤ pos i) (b.c0 +ℤ pos j)) (steps_between b.c0 b.c1))
    ∙ least_of_lifted (pos 0) (λ i. least_of (λ j. table_value t (b.s0 +ℤ pos i) (b.c0 +ℤ pos j)) (steps_between b.c0 b.c1)) (steps_between b.s0 b.s1)

pub greatest_over-slew_value : (t : TableParts) (b : Box) → greatest_over (slew_value t) b ≡ int_max (pos 0) (greatest_over (table_value t) b)
unfolding greatest_over
greatest_over-slew_value t b =
    greatest_of_same _ _ (steps_between b.s0 b.s1) (λ i. greatest_of_lifted (pos 0) (λ j. table_value t (b.s0 +ℤ pos i) (b.c0 +ℤ pos j)) (steps_between b.c0 b.c1))
    ∙ greatest_of_lifted (pos 0) (λ i. greatest_of (λ j. table_value t (b.s0 +ℤ pos i) (b.c0 +ℤ pos j)) (steps_between b.c0 b.c1)) (steps_between b.s0 b.s1)
