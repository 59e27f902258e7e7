-- What moves is what was there less what is left.
use Rattle.std.proofs.Common.{◌≡◌, ℕ, ◌==◌, Bool, true, false, refl, List, [], ◌∷◌, length, ℤ, pos, ◌+ℤ◌, ◌-ℤ◌, ◌≤ℤ◌, arith}
use Rattle.std.specs.Prelude.{if◌then◌else◌}
use Rattle.std.specs.List.{All}
use Rattle.std.proofs.lemmas.Int.{ints}
use Rattle.std.proofs.lemmas.List.Elements.{All-nil, All-cons, All-head, All-tail, All-weaker}
use Rattle.xt_model.specs.declared.net.Coupling.{Coupling}
use Rattle.xt_model.specs.Sound.{IsCap, coupling_sum}
use Rattle.xt_meaning.proofs.Growth.{HasNaturalCap}
use Rattle.xt_meaning.proofs.Sums.{coupling_sum_natural}
use Rattle.eco_warm.specs.declared.edit.Move.{Move}
use Rattle.eco_warm.specs.declared.edit.Move.TheVariants.{Whole, ToGround, FromGround}
use Rattle.eco_warm.specs.Edits.{cap_left, coef_left, coupling_before, couplings_left, cap_moved, coef_before, coefs_left, coef_moved, total}
use Rattle.eco_warm.specs.Possible.{AreInBounds, IsMove}
use Rattle.eco_warm.proofs.Portions.{IsNaturalMove, cap_natural}

coef_step : (t : Bool) (m : Move) (cap c : ℤ) (cs cs' : List ℤ) (moved : ℤ) → moved ≡ (total cs -ℤ total cs')
    → ((if t then c -ℤ coef_left m cap c else pos 0) +ℤ moved) ≡ ((c +ℤ total cs) -ℤ total (if t then coef_before m cap c cs' else c ∷ cs'))
coef_step false m cap c cs cs' moved h = omega (arith, ints, h)
coef_step true Whole cap c cs cs' moved h = omega (arith, ints, h)
coef_step true (ToGround by) cap c cs cs' moved h = omega (arith, ints, h)
coef_step true (FromGround by) cap c cs cs' moved h = omega (arith, ints, h)

pub coef_moved_is : (m : Move) (other : ℕ) (ks : List Coupling) (cs : List ℤ) → length cs ≡ length ks
    → coef_moved m other ks cs ≡ (total cs -ℤ total (coefs_left m other ks cs))
coef_moved_is m other [] [] h = refl
coef_moved_is m other [] (c ∷ cs) h = absurd (omega (arith, h))
coef_moved_is m other (k ∷ ks) [] h = absurd (omega (arith, h))
coef_moved_is m other (k ∷ ks) (c ∷ cs) h =
    coef_step (k.to.0 == other) m k.cap c cs (coefs_left m other ks cs) (coef_moved m other ks cs) (coef_moved_is m other ks cs (omega (arith, h)))

cap_step : (t : Bool) (m : Move) (k : Coupling) (ks ks' : List Coupling) (moved : ℤ) → moved ≡ (coupling_sum ks -ℤ coupling_sum ks')
    → ((if t then k.cap -ℤ cap_left m k.cap else pos 0) +ℤ moved) ≡ ((k.cap +ℤ coupling_sum ks) -ℤ coupling_sum (if t then coupling_before m k ks' else k ∷ ks'))
cap_step false m k ks ks' moved h = omega (arith, ints, h)
cap_step true Whole k ks ks' moved h = omega (arith, ints, h)
cap_step true (ToGround by) k ks ks' moved h = omega (arith, ints, h)
cap_step true (FromGround by) k ks ks' moved h = omega (arith, ints, h)

pub cap_moved_is : (m : Move) (other : ℕ) (ks : List Coupling) → cap_moved m other ks ≡ (coupling_sum ks -ℤ coupling_sum (couplings_left m other ks))
cap_moved_is m other [] = refl
cap_moved_is m other (k ∷ ks) = cap_step (k.to.0 == other) m k ks (couplings_left m other ks) (cap_moved m other ks) (cap_moved_is m other ks)

-- ---- what is left is none below 0
natural_step : (t : Bool) (m : Move) (k : Coupling) (ks' : List Coupling) → IsNaturalMove m → HasNaturalCap k → All HasNaturalCap ks'
    → All HasNaturalCap (if t then coupling_before m k ks' else k ∷ ks')
natural_step false m k ks' n h a = All-cons HasNaturalCap k ks' h a
natural_step true Whole k ks' n h a = a
natural_step true (ToGround by) k ks' n h a = All-cons HasNaturalCap (record k { cap = cap_left (ToGround by) k.cap }) ks' (cap_natural (ToGround by) k.cap n h) a
natural_step true (FromGround by) k ks' n h a = All-cons HasNaturalCap (record k { cap = cap_left (FromGround by) k.cap }) ks' (cap_natural (FromGround by) k.cap n h) a

natural_left : (m : Move) (other : ℕ) (ks : List Coupling) → IsNaturalMove m → All HasNaturalCap ks → All HasNaturalCap (couplings_left m other ks)
natural_left m other [] n a = All-nil HasNaturalCap
natural_left m other (k ∷ ks) n a =
    natural_step (k.to.0 == other) m k (couplings_left m other ks) n (All-head HasNaturalCap k ks a) (natural_left m other ks n (All-tail HasNaturalCap k ks a))

pub amount_natural : (m : Move) → IsMove m → IsNaturalMove m
amount_natural Whole h = tt
amount_natural (ToGround by) h = omega (arith, ints, h.least)
amount_natural (FromGround by) h = omega (arith, ints, h.least)

pub sum_left_natural : (m : Move) (other : ℕ) (ks : List Coupling) → IsMove m → AreInBounds ks → pos 0 ≤ℤ coupling_sum (couplings_left m other ks)
sum_left_natural m other ks h a =
    coupling_sum_natural (couplings_left m other ks)
    (natural_left m other ks (amount_natural m h) (All-weaker (λ k. IsCap k.cap) HasNaturalCap (λ k c. c.least) ks a.caps))
