-- Pins and the nets that they are tied to.
use Rattle.std.proofs.Common.{◌≡◌, ℕ, zero, suc, ◌+◌, ◌*◌, ◌-◌, ◌<◌, ◌≤◌, inl, inr, refl, ap, ◌∙◌, subst, Bool, true, false, List, [], ◌∷◌, ◌++◌, length, arith}
use Rattle.std.specs.Prelude.{◌==◌, if◌then◌else◌, min}
use Rattle.std.proofs.lemmas.Bool.{cases_lt}
use Rattle.std.proofs.lemmas.List.{length_push}
use Rattle.drawn_numbers.specs.Draws.{next, answer, after}
use Rattle.design_gen.specs.Lists.{each_below}
use Rattle.design_gen.specs.Taps.{sources, pins, net_of_pin, driver_of, pins_on, place_of}
use Rattle.design_gen.proofs.Sums.{same_itself, sum_to, sum_to_most, sum_to_two, sum_to_none, hit, sum_hit}

pushed_length : (b : Bool) (xs : List ℕ) (x : ℕ) → length (if b then xs ++ x ∷ [] else xs) ≡ length xs + (if b then 1 else 0)
pushed_length true xs x = length_push xs x
pushed_length false xs x = omega arith

pub pins_on_more : (driver : ℕ → ℕ) (n pin : ℕ) → length (pins_on driver n (suc pin)) ≡ length (pins_on driver n pin) + hit (driver pin) n
unfolding hit
pins_on_more driver n pin = pushed_length (driver pin == n) (pins_on driver n pin) pin

pins_on_grow : (driver : ℕ → ℕ) (n pin count : ℕ) → pin ≤ count → length (pins_on driver n pin) ≤ length (pins_on driver n count)
pins_on_grow driver n pin zero h = let e : 0 ≡ pin = omega arith in let P : ℕ → Type 0 = λ p. length (pins_on driver n p) ≤ 0 in subst P e (omega arith)
pins_on_grow driver n pin (suc count) h = elim (cases_lt count pin) [
  | inl p ↦ let e : suc count ≡ pin = omega arith in let P : ℕ → Type 0 = λ q. length (pins_on driver n q) ≤ length (pins_on driver n (suc count)) in subst P e (omega arith)
  | inr p ↦ let a = pins_on_grow driver n pin count p in let b = pins_on_more driver n count in omega (arith, a, b)
]

hit_itself : (n : ℕ) → hit n n ≡ 1
unfolding hit
hit_itself n = let e = same_itself n in rw e refl

-- the place of a pin is one of its driver's sinks
pub place_there : (driver : ℕ → ℕ) (pin count : ℕ) → pin < count → place_of driver pin < length (pins_on driver (driver pin) count)
place_there driver pin count h =
    let a = pins_on_grow driver (driver pin) (suc pin) count (omega arith) in
    let b = pins_on_more driver (driver pin) pin in
    let c = hit_itself (driver pin) in
    omega (arith, a, b, c)

-- each pin is tied to one net
pub pins_in_all : (driver : ℕ → ℕ) (nets count : ℕ) → sum_to (λ n. length (pins_on driver n count)) nets ≤ count
pins_in_all driver nets zero = let e = sum_to_none nets in omega (arith, e)
pins_in_all driver nets (suc count) =
    let a = pins_in_all driver nets count in
    let b = sum_to_most (λ n. length (pins_on driver n (suc count))) (λ n. length (pins_on driver n count) + hit (driver count) n) nets (λ n h. let e = pins_on_more driver n count in omega (arith, e)) in
    let c = sum_to_two (λ n. length (pins_on driver n count)) (hit (driver count)) nets in
    let d = sum_hit (driver count) nets in
    omega (arith, a, b, c, d)

-- ---- drivers
pub driver_below : (number nets pin : ℕ) → driver_of number nets pin < net_of_pin nets pin
unfolding driver_of
driver_below number nets pin = omega arith

pub net_of_pin_below : (nets pin : ℕ) → 1 ≤ nets → pin < pins nets → net_of_pin nets pin < nets
net_of_pin_below nets pin h k = omega arith

pub pins_few : (nets : ℕ) → pins nets ≤ 2 * nets
pins_few nets = omega arith

-- the pins of driven net n
pub pins_of_net : (nets n : ℕ) → n < nets → sources nets ≤ n
    → (2 * (n - sources nets) + 1 < pins nets) × (net_of_pin nets (2 * (n - sources nets)) ≡ n) × (net_of_pin nets (2 * (n - sources nets) + 1) ≡ n)
pins_of_net nets n h k = (omega arith, omega arith, omega arith)

-- one more driver
pub drivers_turn : (number nets pin s s' d : ℕ) (ds ds' : List ℕ) → ds ≡ each_below (driver_of number nets) pin → s ≡ after number (sources nets + pin) → s' ≡ next s
    → d ≡ net_of_pin nets pin - 1 - answer s' (min (net_of_pin nets pin) 1000) → ds' ≡ ds ++ d ∷ []
    → (ds' ≡ each_below (driver_of number nets) (pin + 1)) × (s' ≡ after number (sources nets + (pin + 1)))
unfolding driver_of
drivers_turn number nets pin s s' d ds ds' a b c e f =
    let k : s' ≡ after number (suc (sources nets + pin)) = c ∙ ap next b in
    let m : d ≡ driver_of number nets pin = e ∙ ap (λ x. net_of_pin nets pin - 1 - answer x (min (net_of_pin nets pin) 1000)) k in
    let one : suc pin ≡ pin + 1 = omega arith in
    let two : suc (sources nets + pin) ≡ sources nets + (pin + 1) = omega arith in
    let P : ℕ → Type 0 = λ i. ds' ≡ each_below (driver_of number nets) i in
    let Q : ℕ → Type 0 = λ i. s' ≡ after number i in
    (subst P one (f ∙ (ap (λ xs. xs ++ d ∷ []) a ∙ ap (λ x. each_below (driver_of number nets) pin ++ x ∷ []) m)), subst Q two k)
