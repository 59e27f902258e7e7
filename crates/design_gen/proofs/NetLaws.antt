-- The tables and the nets of a generated design are sound.
use Rattle.std.proofs.Common.{◌≡◌, ℕ, zero, suc, ◌+◌, ◌*◌, ◌-◌, ◌/◌, ◌%◌, ◌^◌, ◌<◌, ◌≤◌, inl, inr, refl, sym, subst, Bool, true, false, ◌&&◌, List, [], ◌∷◌, ◌++◌, length, map, ℤ, pos, ◌*ℤ◌, ◌≤ℤ◌, ◌<ℤ◌, arith}
use Rattle.std.specs.Prelude.{◌==◌, nat_lt, if◌then◌else◌, int_le, decimal, Option, slice_index_or}
use Rattle.std.specs.List.{All}
use Rattle.std.specs.Option.{IsSomeAnd}
use Rattle.std.specs.Int.Digits.{digits_of}
use Rattle.std.proofs.lemmas.Int.{ints}
use Rattle.std.proofs.lemmas.Int.Digits.{all_below_base_digits_of}
use Rattle.std.proofs.lemmas.Bool.{ltb-false}
use Rattle.std.proofs.lemmas.List.{length-append, length-map}
use Rattle.std.proofs.lemmas.Fmt.{decimal_digit, decimal-digits_of, length-decimal-le}
use Rattle.std.proofs.lemmas.List.Elements.{All-nil, All-cons, All-weaker, All-map, All-append, All-from_recursion}
use Rattle.xt_model.specs.declared.edge.Edge.{Edge}
use Rattle.xt_model.specs.declared.edge.Edge.TheVariants.{Rise, Fall}
use Rattle.xt_model.specs.declared.quad.Quad.{Quad}
use Rattle.xt_model.specs.declared.net.Coupling.{Coupling}
use Rattle.xt_model.specs.declared.net.TimingArc.{TimingArc}
use Rattle.xt_model.specs.declared.net.Net.{Net}
use Rattle.xt_model.specs.Quads.{bottom}
use Rattle.xt_model.specs.Names.{IsName}
use Rattle.xt_model.specs.Tables.{IsTable, IsTableNumber, IsIndex}
use Rattle.xt_model.specs.Sound.{IsConstraint, IsGiven, LeavesGiven, IsProduct, IsSoundCoupling, IsSoundSink, IsSoundArc, HasSink, IsSoundNet}
use Rattle.drawn_numbers.specs.Draws.{drawn}
use Rattle.design_gen.specs.Taps.{sources, pins, net_of_pin, driver_of, pins_on, place_of}
use Rattle.design_gen.specs.Couples.{couplings_of}
use Rattle.design_gen.specs.Generated.{delays, slews, window_by, both_edges, net_name, pin_name, load_by, sink_of, arc_of, arcs_of_pin, arcs_of, couples_of, generated_net, generated}
use Rattle.design_gen.specs.Laws.{IsCount}
use Rattle.design_gen.proofs.Sums.{length-each_below, each_there, hit_most}
use Rattle.design_gen.proofs.PinLaws.{pins_on_more, place_there, driver_below, net_of_pin_below, pins_few, pins_of_net}
use Rattle.design_gen.proofs.CoupleLaws.{answer_below, AreCouples, coupled_well, IsCouplingOf, couplings_well, sum_small}

-- ---- tables
three_index : (a b c : ℤ) → IsTableNumber a → IsTableNumber b → IsTableNumber c → a <ℤ b → b <ℤ c → IsIndex (a ∷ b ∷ c ∷ [])
three_index a b c p q r h k = record {
  some = omega arith;
  most = omega arith;
  rising = record { each = rises };
  numbers = All-cons IsTableNumber a (b ∷ c ∷ []) p (All-cons IsTableNumber b (c ∷ []) q (All-cons IsTableNumber c [] r (All-nil IsTableNumber)));
} where
  rises : (i j : ℕ) → i < j → j < 3 → slice_index_or (a ∷ b ∷ c ∷ []) i (pos 0) <ℤ slice_index_or (a ∷ b ∷ c ∷ []) j (pos 0)
  rises i zero s t = absurd (omega arith)
  rises zero (suc zero) s t = h
  rises (suc i) (suc zero) s t = absurd (omega arith)
  rises zero (suc (suc zero)) s t = omega (arith, ints, h, k)
  rises (suc zero) (suc (suc zero)) s t = k
  rises (suc (suc i)) (suc (suc zero)) s t = absurd (omega arith)
  rises i (suc (suc (suc j))) s t = absurd (omega arith)

small : (n : ℕ) → n ≤ 200000 → IsTableNumber (pos n)
small n h = record { low = omega (arith, ints); high = omega (arith, ints) }

all_small : (ns : List ℕ) → All (λ n. n ≤ 200000) ns → All IsTableNumber (map (λ n. pos n) ns)
all_small ns h = All-map IsTableNumber (λ n. pos n) ns (All-weaker (λ n. n ≤ 200000) (λ n. IsTableNumber (pos n)) small ns h)

slew_index : IsIndex (pos 0 ∷ pos 50000 ∷ pos 200000 ∷ [])
slew_index = three_index (pos 0) (pos 50000) (pos 200000) (small 0 (omega arith)) (small 50000 (omega arith)) (small 200000 (omega arith)) (omega (arith, ints)) (omega (arith, ints))

load_index : IsIndex (pos 0 ∷ pos 5000 ∷ pos 50000 ∷ [])
load_index = three_index (pos 0) (pos 5000) (pos 50000) (small 0 (omega arith)) (small 5000 (omega arith)) (small 50000 (omega arith)) (omega (arith, ints)) (omega (arith, ints))

nine : (a b c d e f g h i : ℕ) → a ≤ 200000 → b ≤ 200000 → c ≤ 200000 → d ≤ 200000 → e ≤ 200000 → f ≤ 200000 → g ≤ 200000 → h ≤ 200000 → i ≤ 200000
    → All (λ n. n ≤ 200000) (a ∷ b ∷ c ∷ d ∷ e ∷ f ∷ g ∷ h ∷ i ∷ [])
nine a b c d e f g h i ka kb kc kd ke kf kg kh ki = All-from_recursion (λ n. n ≤ 200000) (a ∷ b ∷ c ∷ d ∷ e ∷ f ∷ g ∷ h ∷ i ∷ []) (ka, (kb, (kc, (kd, (ke, (kf, (kg, (kh, (ki, tt)))))))))

delays_sound : IsTable delays
delays_sound = record {
  slews = slew_index;
  loads = load_index;
  count = refl;
  values = all_small (5000 ∷ 15000 ∷ 105000 ∷ 8000 ∷ 18000 ∷ 108000 ∷ 20000 ∷ 30000 ∷ 120000 ∷ [])
      (nine 5000 15000 105000 8000 18000 108000 20000 30000 120000 (omega arith) (omega arith) (omega arith) (omega arith) (omega arith) (omega arith) (omega arith) (omega arith) (omega arith));
}

slews_sound : IsTable slews
slews_sound = record {
  slews = slew_index;
  loads = load_index;
  count = refl;
  values = all_small (4000 ∷ 14000 ∷ 104000 ∷ 6000 ∷ 16000 ∷ 106000 ∷ 14000 ∷ 24000 ∷ 114000 ∷ [])
      (nine 4000 14000 104000 6000 16000 106000 14000 24000 114000 (omega arith) (omega arith) (omega arith) (omega arith) (omega arith) (omega arith) (omega arith) (omega arith) (omega arith));
}

pub tables_sound : All IsTable (delays ∷ slews ∷ [])
tables_sound = All-cons IsTable delays (slews ∷ []) delays_sound (All-cons IsTable slews [] slews_sound (All-nil IsTable))

-- ---- names
abbrev IsPrintable : ℕ → Type 0
IsPrintable b = (33 ≤ b) × (b ≤ 126)

decimal_printable : (n : ℕ) → n < 2 ^ 64 → All IsPrintable (decimal n)
decimal_printable zero h = subst (All IsPrintable) (sym (decimal_digit 0 (omega arith))) (All-cons IsPrintable 48 [] (omega arith, omega arith) (All-nil IsPrintable))
decimal_printable (suc n) h =
    let e = decimal-digits_of (suc n) (omega arith) h in
    subst (All IsPrintable) (sym e) (All-map IsPrintable (λ d. 48 + d) (digits_of 10 (suc n))
    (All-weaker (λ d. d < 10) (λ d. IsPrintable (48 + d)) (λ d k. (omega arith, omega arith)) (digits_of 10 (suc n))
    (All-from_recursion (λ d. d < 10) (digits_of 10 (suc n)) (all_below_base_digits_of 10 (suc n) (omega arith)))))

net_name_printable : (n : ℕ) → n < 2 ^ 64 → All IsPrintable (net_name n)
net_name_printable n h = All-cons IsPrintable 110 (decimal n) (omega arith, omega arith) (decimal_printable n h)

pub net_named : (n : ℕ) → n < 1000000 → IsName (net_name n)
net_named n h =
    let l = length-decimal-le 6 n (omega arith) (omega arith) (omega arith) in
    record { some = omega arith; short = omega (arith, l); printable = net_name_printable n (omega arith) }

pub with_letter : (n letter : ℕ) → n < 1000000 → letter < 2 → IsName (net_name n ++ 47 ∷ (65 + letter) ∷ [])
with_letter n letter h k =
    let l = length-decimal-le 6 n (omega arith) (omega arith) (omega arith) in
    let m = length-append (decimal n) (47 ∷ (65 + letter) ∷ []) in
    record {
      some = omega arith;
      short = omega (arith, l, m);
      printable = All-append IsPrintable (net_name n) (47 ∷ (65 + letter) ∷ []) (net_name_printable n (omega arith))
          (All-cons IsPrintable 47 ((65 + letter) ∷ []) (omega arith, omega arith) (All-cons IsPrintable (65 + letter) [] (omega arith, omega arith) (All-nil IsPrintable)));
    }

-- ---- what is given
test_from_le : (a b : ℤ) → a ≤ℤ b → int_le a b ≡ true
test_from_le a b h = grind (arith, ints)

both : (a b : Bool) → a ≡ true → b ≡ true → (a && b) ≡ true
both true b h k = k
both false b h k = absurd (cc)

window_sound : (r : ℕ) → r < 2000 → IsConstraint (window_by r)
window_sound r h = record {
  live = both (int_le (pos (1000 * (r % 100))) (pos (1000 * (r % 100) + 1000 * (r / 100)))) (int_le (pos 20000) (pos 20000))
      (test_from_le (pos (1000 * (r % 100))) (pos (1000 * (r % 100) + 1000 * (r / 100))) (omega (arith, ints))) (test_from_le (pos 20000) (pos 20000) (omega (arith, ints)));
  tlo = record { least = omega (arith, ints); most = omega (arith, ints) };
  thi = record { least = omega (arith, ints); most = omega (arith, ints) };
  slo = record { least = omega (arith, ints); most = omega (arith, ints) };
  shi = record { least = omega (arith, ints); most = omega (arith, ints) };
}

given_sound : (b : Bool) (r : ℕ) → r < 2000 → IsGiven (if b then window_by r else bottom)
given_sound true r h = inr (window_sound r h)
given_sound false r h = inl refl

leaves_given : (b : Bool) (q : Quad) (arcs : List TimingArc) → LeavesGiven (both_edges (if b then q else bottom)) (if b then [] else arcs)
leaves_given true q arcs = tt
leaves_given false q [] = tt
leaves_given false q (a ∷ arcs) = (refl, refl)

-- ---- pins
below_chosen : (b : Bool) (count : ℕ) (ps : List ℕ) → All (λ p. p < count) ps → All (λ p. p < suc count) (if b then ps ++ count ∷ [] else ps)
below_chosen true count ps h =
    All-append (λ p. p < suc count) ps (count ∷ []) (All-weaker (λ p. p < count) (λ p. p < suc count) (λ p k. omega arith) ps h)
    (All-cons (λ p. p < suc count) count [] (omega arith) (All-nil (λ p. p < suc count)))
below_chosen false count ps h = All-weaker (λ p. p < count) (λ p. p < suc count) (λ p k. omega arith) ps h

pub pins_on_below : (driver : ℕ → ℕ) (n count : ℕ) → All (λ p. p < count) (pins_on driver n count)
pins_on_below driver n zero = All-nil (λ p. p < 0)
pins_on_below driver n (suc count) = below_chosen (driver count == n) count (pins_on driver n count) (pins_on_below driver n count)

pub pins_on_few : (driver : ℕ → ℕ) (n count : ℕ) → length (pins_on driver n count) ≤ count
pins_on_few driver n zero = omega arith
pins_on_few driver n (suc count) = let a = pins_on_few driver n count in let b = pins_on_more driver n count in let c = hit_most (driver count) n in omega (arith, a, b, c)

-- ---- a net
module _ (number nets : ℕ) (count : IsCount nets) where
  driver : ℕ → ℕ
  driver = driver_of number nets

  pub couples_well : AreCouples nets nets (couples_of number nets)
  couples_well = coupled_well nets _ nets (omega arith)

  pub few_couplings : (n : ℕ) → length (couplings_of n (couples_of number nets)) ≤ 16
  few_couplings n = couples_well.few n

  pub of_couplings : (n : ℕ) → All (IsCouplingOf nets n) (couplings_of n (couples_of number nets))
  of_couplings n = couplings_well nets n (couples_of number nets) couples_well.each

  pub driver_there : (pin : ℕ) → pin < pins nets → driver_of number nets pin < nets
  driver_there pin h =
      let a = driver_below number nets pin in
      let some = count.some in
      let b = net_of_pin_below nets pin some h in
      omega (arith, a, b)

  pub sinks_of : (n : ℕ) → length (generated_net number nets n).sinks ≡ length (pins_on (driver_of number nets) n (pins nets))
  sinks_of n = length-map (pins_on (driver_of number nets) n (pins nets)) (sink_of nets (load_by (length (pins_on (driver_of number nets) n (pins nets)))) (couplings_of n (couples_of number nets)))

  has_sink : (pin : ℕ) → pin < pins nets → HasSink (generated number nets) (driver_of number nets pin) (place_of (driver_of number nets) pin)
  has_sink pin h =
      let there = each_there (generated_net number nets) nets (driver_of number nets pin) (driver_there pin h) in
      let a = place_there (driver_of number nets) pin (pins nets) h in
      let b = sinks_of (driver_of number nets pin) in
      let P : Option Net → Type 0 = λ o. IsSomeAnd o (λ n. place_of (driver_of number nets) pin < length n.sinks) in
      subst P (sym there) (omega (arith, a, b))

  arc_sound : (pin : ℕ) (input output : Edge) → pin < pins nets → IsSoundArc (generated number nets) (arc_of (driver_of number nets pin) (place_of (driver_of number nets) pin) input output)
  arc_sound pin input output h = record { sink = has_sink pin h; delay = omega arith; slew = omega arith }

  pin_sound : (pin : ℕ) → pin < pins nets → All (IsSoundArc (generated number nets)) (arcs_of_pin (driver_of number nets) pin)
  pin_sound pin h =
      All-cons (IsSoundArc (generated number nets)) (arc_of (driver_of number nets pin) (place_of (driver_of number nets) pin) Rise Fall)
      (arc_of (driver_of number nets pin) (place_of (driver_of number nets) pin) Fall Rise ∷ []) (arc_sound pin Rise Fall h)
      (All-cons (IsSoundArc (generated number nets)) (arc_of (driver_of number nets pin) (place_of (driver_of number nets) pin) Fall Rise) [] (arc_sound pin Fall Rise h) (All-nil (IsSoundArc (generated number nets))))

  arcs_sound : (n : ℕ) → n < nets → All (IsSoundArc (generated number nets)) (arcs_of nets (driver_of number nets) n)
  arcs_sound n h = chosen (nat_lt n (sources nets)) refl where
    chosen : (b : Bool) → nat_lt n (sources nets) ≡ b
        → All (IsSoundArc (generated number nets)) (if b then [] else arcs_of_pin (driver_of number nets) (2 * (n - sources nets)) ++ arcs_of_pin (driver_of number nets) (2 * (n - sources nets) + 1))
    chosen true e = All-nil (IsSoundArc (generated number nets))
    chosen false e =
        let past = ltb-false n (sources nets) e in
        let inside = pins_of_net nets n h past in
        let last = inside.0 in
        All-append (IsSoundArc (generated number nets)) (arcs_of_pin (driver_of number nets) (2 * (n - sources nets))) (arcs_of_pin (driver_of number nets) (2 * (n - sources nets) + 1))
        (pin_sound (2 * (n - sources nets)) (omega (arith, last))) (pin_sound (2 * (n - sources nets) + 1) last)

  product_of : (n : ℕ) (k : Coupling) → IsCouplingOf nets n k → IsProduct (pos 100000 *ℤ k.cap)
  product_of n k h = let a = h.low in let b = h.most in record { least = omega (arith, ints, a); most = omega (arith, ints, b) }

  sink_sound : (n load pin : ℕ) → load ≤ 1000000000 → pin < pins nets
      → IsSoundSink (length (couplings_of n (couples_of number nets))) (sink_of nets load (couplings_of n (couples_of number nets)) pin)
  sink_sound n load pin most h =
      let few = count.most in
      let below = net_of_pin_below nets pin count.some h in
      record {
        name = with_letter (net_of_pin nets pin) (pin % 2) (omega (arith, below, few)) (omega arith);
        base = record { least = omega (arith, ints); most = omega (arith, ints, most) };
        count = length-map (couplings_of n (couples_of number nets)) (λ k. pos 100000 *ℤ k.cap);
        coefs = All-map IsProduct (λ k. pos 100000 *ℤ k.cap) (couplings_of n (couples_of number nets))
            (All-weaker (IsCouplingOf nets n) (λ k. IsProduct (pos 100000 *ℤ k.cap)) (product_of n) (couplings_of n (couples_of number nets)) (of_couplings n));
      }

  pub net_sound : (n : ℕ) → n < nets → IsSoundNet (generated number nets) n (generated_net number nets n)
  net_sound n h =
      let few = count.most in
      let all_pins = pins_on_few (driver_of number nets) n (pins nets) in
      let pins_most = pins_few nets in
      let load = load_by (length (pins_on (driver_of number nets) n (pins nets))) in
      let most_load : load ≤ 1000000000 = omega (arith, all_pins, pins_most, few) in
      let as_many = length-each_below (generated_net number nets) nets in
      let sinks = sinks_of n in
      let given = given_sound (nat_lt n (sources nets)) (drawn number n 2000) (answer_below _ 2000 (omega arith)) in
      let caps = sum_small nets n (couplings_of n (couples_of number nets)) (of_couplings n) in
      let room = few_couplings n in
      record {
        name = net_named n (omega (arith, h, few));
        load = record { least = omega (arith, ints); most = omega (arith, ints, most_load) };
        rise = given;
        fall = given;
        derived = leaves_given (nat_lt n (sources nets)) (window_by (drawn number n 2000))
            (arcs_of_pin (driver_of number nets) (2 * (n - sources nets)) ++ arcs_of_pin (driver_of number nets) (2 * (n - sources nets) + 1));
        couplings = All-weaker (IsCouplingOf nets n) (IsSoundCoupling (generated number nets) n)
            (λ k c.
            let there = c.there in
            let low = c.low in
            let most = c.most in
            record { there = omega (arith, there, as_many); other = c.other; cap = record { least = low; most = omega (arith, ints, most) } })
            (couplings_of n (couples_of number nets)) (of_couplings n);
        sinks = All-map (IsSoundSink (length (couplings_of n (couples_of number nets)))) (sink_of nets load (couplings_of n (couples_of number nets)))
            (pins_on (driver_of number nets) n (pins nets))
            (All-weaker (λ p. p < pins nets) (λ p. IsSoundSink (length (couplings_of n (couples_of number nets))) (sink_of nets load (couplings_of n (couples_of number nets)) p))
            (λ p k. sink_sound n load p most_load k) (pins_on (driver_of number nets) n (pins nets)) (pins_on_below (driver_of number nets) n (pins nets)));
        arcs = arcs_sound n h;
        few_sinks = omega (arith, sinks, all_pins, pins_most, few);
        most_load = omega (arith, ints, most_load, caps, room);
      }

pub pin_named : (nets pin : ℕ) → IsCount nets → pin < pins nets → IsName (pin_name nets pin)
pin_named nets pin count h =
    let few = count.most in
    let below = net_of_pin_below nets pin count.some h in
    with_letter (net_of_pin nets pin) (pin % 2) (omega (arith, below, few)) (omega arith)
