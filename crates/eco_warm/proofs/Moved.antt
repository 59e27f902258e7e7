-- Sums over the couplings of a net, before and after some of them are moved.
use Rattle.std.proofs.Common.{◌≡◌, ℕ, Bool, true, false, ◌==◌, List, [], ◌∷◌, length, map, ℤ, pos, ◌+ℤ◌, ◌-ℤ◌, ◌*ℤ◌, ◌≤ℤ◌, arith}
use Rattle.std.specs.Prelude.{if◌then◌else◌}
use Rattle.std.specs.List.{All}
use Rattle.std.proofs.lemmas.Int.{ints}
use Rattle.std.proofs.lemmas.List.Elements.{All-head, All-tail}
use Rattle.xt_model.specs.declared.net.Coupling.{Coupling}
use Rattle.xt_meaning.specs.Wires.{product_sum, cap_sum}
use Rattle.xt_meaning.proofs.Growth.{IsNatural, HasNaturalCap}
use Rattle.eco_warm.specs.declared.edit.Move.{Move}
use Rattle.eco_warm.specs.declared.edit.Move.TheVariants.{Whole, ToGround, FromGround}
use Rattle.eco_warm.specs.Edits.{cap_left, coef_left, coupling_before, couplings_left, cap_moved, coef_before, coefs_left, coef_moved}
use Rattle.eco_warm.proofs.Portions.{CountsNoLess, CountsNoMore}

-- a factor for each coupling, by the net that it leads to
abbrev pub factors : (ℕ → ℕ) → List Coupling → List ℕ
factors f ks = map (λ k. f k.to.0) ks

nothing : (f : ℕ) → (pos f *ℤ pos 0) ≡ pos 0
nothing f = omega (arith, ints)

-- ---- coefficients
-- the sums with one more coupling, where the sum before is no more than the sum after
coef_step_up : (t : Bool) (m : Move) (f : ℕ → ℕ) (k : Coupling) (c : ℤ) (ks ks' : List Coupling) (cs cs' : List ℤ) (moved : ℤ)
    → CountsNoLess (f k.to.0) c (coef_left m k.cap c)
    → product_sum (factors f ks) cs ≤ℤ ((pos 4 *ℤ moved) +ℤ product_sum (factors f ks') cs')
    → product_sum (factors f (k ∷ ks)) (c ∷ cs)
    ≤ℤ ((pos 4 *ℤ ((if t then c -ℤ coef_left m k.cap c else pos 0) +ℤ moved))
    +ℤ product_sum (factors f (if t then coupling_before m k ks' else k ∷ ks')) (if t then coef_before m k.cap c cs' else c ∷ cs'))
coef_step_up false m f k c ks ks' cs cs' moved h g = omega (arith, ints, h, g)
coef_step_up true Whole f k c ks ks' cs cs' moved h g = let z = nothing (f k.to.0) in omega (arith, ints, h, g, z)
coef_step_up true (ToGround by) f k c ks ks' cs cs' moved h g = omega (arith, ints, h, g)
coef_step_up true (FromGround by) f k c ks ks' cs cs' moved h g = omega (arith, ints, h, g)

coef_step_down : (t : Bool) (m : Move) (f : ℕ → ℕ) (k : Coupling) (c : ℤ) (ks ks' : List Coupling) (cs cs' : List ℤ) (moved : ℤ)
    → CountsNoMore (f k.to.0) c (coef_left m k.cap c)
    → ((pos 4 *ℤ moved) +ℤ product_sum (factors f ks') cs') ≤ℤ product_sum (factors f ks) cs
    → ((pos 4 *ℤ ((if t then c -ℤ coef_left m k.cap c else pos 0) +ℤ moved))
    +ℤ product_sum (factors f (if t then coupling_before m k ks' else k ∷ ks')) (if t then coef_before m k.cap c cs' else c ∷ cs'))
    ≤ℤ product_sum (factors f (k ∷ ks)) (c ∷ cs)
coef_step_down false m f k c ks ks' cs cs' moved h g = omega (arith, ints, h, g)
coef_step_down true Whole f k c ks ks' cs cs' moved h g = let z = nothing (f k.to.0) in omega (arith, ints, h, g, z)
coef_step_down true (ToGround by) f k c ks ks' cs cs' moved h g = omega (arith, ints, h, g)
coef_step_down true (FromGround by) f k c ks ks' cs cs' moved h g = omega (arith, ints, h, g)

pub coefs_up : (m : Move) (other : ℕ) (f : ℕ → ℕ) → ((k : Coupling) (c : ℤ) → HasNaturalCap k → IsNatural c → CountsNoLess (f k.to.0) c (coef_left m k.cap c))
    → (ks : List Coupling) (cs : List ℤ) → length cs ≡ length ks → All HasNaturalCap ks → All IsNatural cs
    → product_sum (factors f ks) cs ≤ℤ ((pos 4 *ℤ coef_moved m other ks cs) +ℤ product_sum (factors f (couplings_left m other ks)) (coefs_left m other ks cs))
coefs_up m other f h [] cs e a b = omega (arith, ints)
coefs_up m other f h (k ∷ ks) [] e a b = absurd (omega (arith, e))
coefs_up m other f h (k ∷ ks) (c ∷ cs) e a b =
    coef_step_up (k.to.0 == other) m f k c ks (couplings_left m other ks) cs (coefs_left m other ks cs) (coef_moved m other ks cs)
    (h k c (All-head HasNaturalCap k ks a) (All-head IsNatural c cs b))
    (coefs_up m other f h ks cs (omega (arith, e)) (All-tail HasNaturalCap k ks a) (All-tail IsNatural c cs b))

pub coefs_down : (m : Move) (other : ℕ) (f : ℕ → ℕ) → ((k : Coupling) (c : ℤ) → HasNaturalCap k → IsNatural c → CountsNoMore (f k.to.0) c (coef_left m k.cap c))
    → (ks : List Coupling) (cs : List ℤ) → length cs ≡ length ks → All HasNaturalCap ks → All IsNatural cs
    → ((pos 4 *ℤ coef_moved m other ks cs) +ℤ product_sum (factors f (couplings_left m other ks)) (coefs_left m other ks cs)) ≤ℤ product_sum (factors f ks) cs
coefs_down m other f h [] cs e a b = omega (arith, ints)
coefs_down m other f h (k ∷ ks) [] e a b = absurd (omega (arith, e))
coefs_down m other f h (k ∷ ks) (c ∷ cs) e a b =
    coef_step_down (k.to.0 == other) m f k c ks (couplings_left m other ks) cs (coefs_left m other ks cs) (coef_moved m other ks cs)
    (h k c (All-head HasNaturalCap k ks a) (All-head IsNatural c cs b))
    (coefs_down m other f h ks cs (omega (arith, e)) (All-tail HasNaturalCap k ks a) (All-tail IsNatural c cs b))

-- ---- capacitances
cap_step_up : (t : Bool) (m : Move) (f : ℕ → ℕ) (k : Coupling) (ks ks' : List Coupling) (moved : ℤ)
    → CountsNoLess (f k.to.0) k.cap (cap_left m k.cap)
    → cap_sum (factors f ks) ks ≤ℤ ((pos 4 *ℤ moved) +ℤ cap_sum (factors f ks') ks')
    → cap_sum (factors f (k ∷ ks)) (k ∷ ks)
    ≤ℤ ((pos 4 *ℤ ((if t then k.cap -ℤ cap_left m k.cap else pos 0) +ℤ moved))
    +ℤ cap_sum (factors f (if t then coupling_before m k ks' else k ∷ ks')) (if t then coupling_before m k ks' else k ∷ ks'))
cap_step_up false m f k ks ks' moved h g = omega (arith, ints, h, g)
cap_step_up true Whole f k ks ks' moved h g = let z = nothing (f k.to.0) in omega (arith, ints, h, g, z)
cap_step_up true (ToGround by) f k ks ks' moved h g = omega (arith, ints, h, g)
cap_step_up true (FromGround by) f k ks ks' moved h g = omega (arith, ints, h, g)

cap_step_down : (t : Bool) (m : Move) (f : ℕ → ℕ) (k : Coupling) (ks ks' : List Coupling) (moved : ℤ)
    → CountsNoMore (f k.to.0) k.cap (cap_left m k.cap)
    → ((pos 4 *ℤ moved) +ℤ cap_sum (factors f ks') ks') ≤ℤ cap_sum (factors f ks) ks
    → ((pos 4 *ℤ ((if t then k.cap -ℤ cap_left m k.cap else pos 0) +ℤ moved))
    +ℤ cap_sum (factors f (if t then coupling_before m k ks' else k ∷ ks')) (if t then coupling_before m k ks' else k ∷ ks'))
    ≤ℤ cap_sum (factors f (k ∷ ks)) (k ∷ ks)
cap_step_down false m f k ks ks' moved h g = omega (arith, ints, h, g)
cap_step_down true Whole f k ks ks' moved h g = let z = nothing (f k.to.0) in omega (arith, ints, h, g, z)
cap_step_down true (ToGround by) f k ks ks' moved h g = omega (arith, ints, h, g)
cap_step_down true (FromGround by) f k ks ks' moved h g = omega (arith, ints, h, g)

pub caps_up : (m : Move) (other : ℕ) (f : ℕ → ℕ) → ((k : Coupling) → HasNaturalCap k → CountsNoLess (f k.to.0) k.cap (cap_left m k.cap))
    → (ks : List Coupling) → All HasNaturalCap ks
    → cap_sum (factors f ks) ks ≤ℤ ((pos 4 *ℤ cap_moved m other ks) +ℤ cap_sum (factors f (couplings_left m other ks)) (couplings_left m other ks))
caps_up m other f h [] a = omega (arith, ints)
caps_up m other f h (k ∷ ks) a =
    cap_step_up (k.to.0 == other) m f k ks (couplings_left m other ks) (cap_moved m other ks) (h k (All-head HasNaturalCap k ks a))
    (caps_up m other f h ks (All-tail HasNaturalCap k ks a))

pub caps_down : (m : Move) (other : ℕ) (f : ℕ → ℕ) → ((k : Coupling) → HasNaturalCap k → CountsNoMore (f k.to.0) k.cap (cap_left m k.cap))
    → (ks : List Coupling) → All HasNaturalCap ks
    → ((pos 4 *ℤ cap_moved m other ks) +ℤ cap_sum (factors f (couplings_left m other ks)) (couplings_left m other ks)) ≤ℤ cap_sum (factors f ks) ks
caps_down m other f h [] a = omega (arith, ints)
caps_down m other f h (k ∷ ks) a =
    cap_step_down (k.to.0 == other) m f k ks (couplings_left m other ks) (cap_moved m other ks) (h k (All-head HasNaturalCap k ks a))
    (caps_down m other f h ks (All-tail HasNaturalCap k ks a))
