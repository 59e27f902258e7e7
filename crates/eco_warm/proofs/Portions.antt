-- What is left of one coupling, against what was there.
use Rattle.std.proofs.Common.{◌≡◌, ℕ, zero, suc, ◌+◌, ◌-◌, ◌*◌, ◌/◌, ◌≤◌, ◌<◌, ℤ, pos, negsuc, ◌+ℤ◌, ◌-ℤ◌, ◌*ℤ◌, ◌≤ℤ◌, arith, mul-le-mul_right}
use Rattle.std.specs.Int.{int_div_euclid}
use Rattle.std.proofs.lemmas.Int.{ints, clamps}
use Rattle.std.proofs.lemmas.Nat.{div-mul-add, mul-le}
use Rattle.std.proofs.Math.Nat.{mul-add}
use Rattle.xt_meaning.proofs.Growth.{IsNatural}
use Rattle.xt_meaning.proofs.Order.{div_euclid_mono}
use Rattle.xt_meaning.proofs.Room.{floor_natural}
use Rattle.eco_warm.specs.declared.edit.Move.{Move}
use Rattle.eco_warm.specs.declared.edit.Move.TheVariants.{Whole, ToGround, FromGround}
use Rattle.eco_warm.specs.Edits.{cap_left, in_proportion, coef_left}

-- ---- a coefficient in proportion
whole_part : (x d : ℕ) → 0 < d → int_div_euclid (pos x *ℤ pos d) (pos d) ≡ pos x
whole_part x d h = let z : x * d + 0 ≡ x * d = omega arith in let e : (x * d) / d ≡ x = rw z at (div-mul-add x d 0 h) in omega (arith, ints, e)

product_mono : (x : ℕ) (y z : ℤ) → IsNatural y → y ≤ℤ z → (pos x *ℤ y) ≤ℤ (pos x *ℤ z)
product_mono x (pos a) (pos b) n h = let e : x * a ≤ x * b = mul-le x a x b (omega arith) (omega (arith, ints, h)) in omega (arith, ints, e)
product_mono x (pos a) (negsuc b) n h = absurd (omega (arith, ints, h))
product_mono x (negsuc a) z n h = absurd (omega (arith, ints, n))

proportion_natural : (cap left coef : ℤ) → IsNatural left → IsNatural coef → IsNatural (in_proportion cap left coef)
proportion_natural (pos zero) left coef h k = k
proportion_natural (negsuc c) left coef h k = k
proportion_natural (pos (suc c)) (pos l) (pos x) h k = floor_natural (pos x *ℤ pos l) (suc c) (omega (arith, ints))
proportion_natural (pos (suc c)) (negsuc l) coef h k = absurd (omega (arith, ints, h))
proportion_natural (pos (suc c)) (pos l) (negsuc x) h k = absurd (omega (arith, ints, k))

proportion_less : (cap left coef : ℤ) → IsNatural left → left ≤ℤ cap → IsNatural coef → in_proportion cap left coef ≤ℤ coef
proportion_less (pos zero) left coef n h k = omega (arith, ints)
proportion_less (negsuc c) left coef n h k = omega (arith, ints)
proportion_less (pos (suc c)) left (negsuc x) n h k = absurd (omega (arith, ints, k))
proportion_less (pos (suc c)) left (pos x) n h k =
    let m = div_euclid_mono (pos x *ℤ left) (pos x *ℤ pos (suc c)) (suc c) (omega arith) (product_mono x left (pos (suc c)) n h) in
    let w = whole_part x (suc c) (omega arith) in
    rw w at m

proportion_more : (cap left coef : ℤ) → cap ≤ℤ left → IsNatural coef → coef ≤ℤ in_proportion cap left coef
proportion_more (pos zero) left coef h k = omega (arith, ints)
proportion_more (negsuc c) left coef h k = omega (arith, ints)
proportion_more (pos (suc c)) left (negsuc x) h k = absurd (omega (arith, ints, k))
proportion_more (pos (suc c)) left (pos x) h k =
    let m = div_euclid_mono (pos x *ℤ pos (suc c)) (pos x *ℤ left) (suc c) (omega arith) (product_mono x (pos (suc c)) left (omega (arith, ints)) h) in
    let w = whole_part x (suc c) (omega arith) in
    rw w at m

-- ---- what an edit leaves
-- the amount is none below 0
abbrev pub IsNaturalMove : Move → Type 0
IsNaturalMove Whole = Unit {0}
IsNaturalMove (ToGround by) = IsNatural by
IsNaturalMove (FromGround by) = IsNatural by

pub cap_natural : (m : Move) (cap : ℤ) → IsNaturalMove m → IsNatural cap → IsNatural (cap_left m cap)
cap_natural Whole cap h k = omega (arith, ints)
cap_natural (ToGround by) cap h k = omega (arith, ints, clamps, h, k)
cap_natural (FromGround by) cap h k = omega (arith, ints, h, k)

pub coef_natural : (m : Move) (cap coef : ℤ) → IsNaturalMove m → IsNatural cap → IsNatural coef → IsNatural (coef_left m cap coef)
coef_natural Whole cap coef h k n = omega (arith, ints)
coef_natural (ToGround by) cap coef h k n = proportion_natural cap (cap_left (ToGround by) cap) coef (cap_natural (ToGround by) cap h k) n
coef_natural (FromGround by) cap coef h k n = proportion_natural cap (cap_left (FromGround by) cap) coef (cap_natural (FromGround by) cap h k) n

-- whether capacitance goes to ground, or comes from there
abbrev pub IsToGround : Move → Type 0
IsToGround Whole = Unit {0}
IsToGround (ToGround by) = IsNatural by
IsToGround (FromGround by) = ⊥

abbrev pub IsFromGround : Move → Type 0
IsFromGround Whole = ⊥
IsFromGround (ToGround by) = ⊥
IsFromGround (FromGround by) = IsNatural by

cap_less : (m : Move) (cap : ℤ) → IsToGround m → IsNatural cap → cap_left m cap ≤ℤ cap
cap_less Whole cap h k = k
cap_less (ToGround by) cap h k = omega (arith, ints, clamps, h, k)
cap_less (FromGround by) cap h k = absurd h

coef_less : (m : Move) (cap coef : ℤ) → IsToGround m → IsNatural cap → IsNatural coef → coef_left m cap coef ≤ℤ coef
coef_less Whole cap coef h k n = n
coef_less (ToGround by) cap coef h k n = proportion_less cap (cap_left (ToGround by) cap) coef (cap_natural (ToGround by) cap h k) (cap_less (ToGround by) cap h k) n
coef_less (FromGround by) cap coef h k n = absurd h

cap_more : (m : Move) (cap : ℤ) → IsFromGround m → cap ≤ℤ cap_left m cap
cap_more Whole cap h = absurd h
cap_more (ToGround by) cap h = absurd h
cap_more (FromGround by) cap h = omega (arith, ints, h)

coef_more : (m : Move) (cap coef : ℤ) → IsFromGround m → IsNatural coef → coef ≤ℤ coef_left m cap coef
coef_more Whole cap coef h n = absurd h
coef_more (ToGround by) cap coef h n = absurd h
coef_more (FromGround by) cap coef h n = proportion_more cap (cap_left (FromGround by) cap) coef (cap_more (FromGround by) cap h) n

-- ---- what counts by a factor
-- with four quarters for what went to ground, what is left counts no less, or no more, than what was there
abbrev pub CountsNoLess : ℕ → ℤ → ℤ → Type 0
CountsNoLess f x y = (pos f *ℤ x) ≤ℤ ((pos 4 *ℤ (x -ℤ y)) +ℤ (pos f *ℤ y))

abbrev pub CountsNoMore : ℕ → ℤ → ℤ → Type 0
CountsNoMore f x y = ((pos 4 *ℤ (x -ℤ y)) +ℤ (pos f *ℤ y)) ≤ℤ (pos f *ℤ x)

no_less_below : (f : ℕ) (x y : ℤ) → f ≤ 4 → IsNatural y → y ≤ℤ x → CountsNoLess f x y
no_less_below f (pos a) (pos b) h n k =
    let e : f * (b + (a - b)) ≡ f * b + f * (a - b) = mul-add f b (a - b) in
    let s : b + (a - b) ≡ a = omega (arith, ints, k) in
    let g : f * (a - b) ≤ 4 * (a - b) = mul-le-mul_right (a - b) h in
    let t : f * a ≡ f * b + f * (a - b) = rw s at e in
    omega (arith, ints, g, t, k)
no_less_below f (pos a) (negsuc b) h n k = absurd (omega (arith, ints, n))
no_less_below f (negsuc a) y h n k = absurd (omega (arith, ints, n, k))

no_more_above : (f : ℕ) (x y : ℤ) → 4 ≤ f → IsNatural y → y ≤ℤ x → CountsNoMore f x y
no_more_above f (pos a) (pos b) h n k =
    let e : f * (b + (a - b)) ≡ f * b + f * (a - b) = mul-add f b (a - b) in
    let s : b + (a - b) ≡ a = omega (arith, ints, k) in
    let g : 4 * (a - b) ≤ f * (a - b) = mul-le-mul_right (a - b) h in
    let t : f * a ≡ f * b + f * (a - b) = rw s at e in
    omega (arith, ints, g, t, k)
no_more_above f (pos a) (negsuc b) h n k = absurd (omega (arith, ints, n))
no_more_above f (negsuc a) y h n k = absurd (omega (arith, ints, n, k))

-- the same where what is left is more
no_more_below : (f : ℕ) (x y : ℤ) → f ≤ 4 → IsNatural x → x ≤ℤ y → CountsNoMore f x y
no_more_below f x y h n k = let e = no_less_below f y x h n k in omega (arith, ints, e)

no_less_above : (f : ℕ) (x y : ℤ) → 4 ≤ f → IsNatural x → x ≤ℤ y → CountsNoLess f x y
no_less_above f x y h n k = let e = no_more_above f y x h n k in omega (arith, ints, e)

-- what an edit to ground, or from there, leaves of a capacitance and of a coefficient, by a factor of at most four
-- quarters and by one of at least four
pub cap_out_least : (m : Move) (f : ℕ) (cap : ℤ) → IsToGround m → IsNaturalMove m → f ≤ 4 → IsNatural cap → CountsNoLess f cap (cap_left m cap)
cap_out_least m f cap h nm l k = no_less_below f cap (cap_left m cap) l (cap_natural m cap nm k) (cap_less m cap h k)

pub cap_out_most : (m : Move) (f : ℕ) (cap : ℤ) → IsToGround m → IsNaturalMove m → 4 ≤ f → IsNatural cap → CountsNoMore f cap (cap_left m cap)
cap_out_most m f cap h nm l k = no_more_above f cap (cap_left m cap) l (cap_natural m cap nm k) (cap_less m cap h k)

pub cap_in_least : (m : Move) (f : ℕ) (cap : ℤ) → IsFromGround m → f ≤ 4 → IsNatural cap → CountsNoMore f cap (cap_left m cap)
cap_in_least m f cap h l k = no_more_below f cap (cap_left m cap) l k (cap_more m cap h)

pub cap_in_most : (m : Move) (f : ℕ) (cap : ℤ) → IsFromGround m → 4 ≤ f → IsNatural cap → CountsNoLess f cap (cap_left m cap)
cap_in_most m f cap h l k = no_less_above f cap (cap_left m cap) l k (cap_more m cap h)

pub coef_out_least : (m : Move) (f : ℕ) (cap coef : ℤ) → IsToGround m → IsNaturalMove m → f ≤ 4 → IsNatural cap → IsNatural coef → CountsNoLess f coef (coef_left m cap coef)
coef_out_least m f cap coef h nm l k n = no_less_below f coef (coef_left m cap coef) l (coef_natural m cap coef nm k n) (coef_less m cap coef h k n)

pub coef_out_most : (m : Move) (f : ℕ) (cap coef : ℤ) → IsToGround m → IsNaturalMove m → 4 ≤ f → IsNatural cap → IsNatural coef → CountsNoMore f coef (coef_left m cap coef)
coef_out_most m f cap coef h nm l k n = no_more_above f coef (coef_left m cap coef) l (coef_natural m cap coef nm k n) (coef_less m cap coef h k n)

pub coef_in_least : (m : Move) (f : ℕ) (cap coef : ℤ) → IsFromGround m → f ≤ 4 → IsNatural coef → CountsNoMore f coef (coef_left m cap coef)
coef_in_least m f cap coef h l n = no_more_below f coef (coef_left m cap coef) l n (coef_more m cap coef h n)

pub coef_in_most : (m : Move) (f : ℕ) (cap coef : ℤ) → IsFromGround m → 4 ≤ f → IsNatural coef → CountsNoLess f coef (coef_left m cap coef)
coef_in_most m f cap coef h l n = no_less_above f coef (coef_left m cap coef) l n (coef_more m cap coef h n)
