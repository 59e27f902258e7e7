-- Every generated design is sound and keeps the limits, and its arcs make no loop.
use Rattle.std.proofs.Common.{◌≡◌, ℕ, zero, suc, ◌+◌, ◌*◌, ◌-◌, ◌<◌, ◌≤◌, refl, sym, ◌∙◌, subst, ap, Bool, true, false, List, [], ◌∷◌, ◌++◌, length, inl, inr, mul_comm, arith, mul-le-mul_right}
use Rattle.std.specs.Prelude.{nat_lt, if◌then◌else◌, codes, decimal, Option, Some, None, IfSome, slice_index}
use Rattle.std.specs.List.{All, Contains, slice_get, sum_by}
use Rattle.std.specs.Option.{option_map, unwrap_or}
use Rattle.std.proofs.lemmas.Bool.{cases_lt, ltb-false}
use Rattle.std.proofs.lemmas.Option.{slice_get_past, slice_get_within}
use Rattle.std.proofs.lemmas.Fmt.{decimal_injective}
use Rattle.std.proofs.lemmas.List.{append_cancel_left}
use Rattle.std.proofs.lemmas.List.Sums.{sum_by-cons}
use Rattle.std.proofs.lemmas.List.Elements.{All-nil, All-cons, All-append, All-contains}
use Rattle.xt_model.specs.declared.edge.Edge.TheVariants.{Rise, Fall}
use Rattle.xt_model.specs.declared.net.TimingArc.{TimingArc}
use Rattle.xt_model.specs.declared.net.Net.{Net}
use Rattle.xt_model.specs.Parts.{Parts}
use Rattle.xt_model.specs.Levels.{Reads, IsLoop}
use Rattle.xt_model.specs.Sound.{IsSound, IsSoundNet, IsSoundCheck, IsWithinLimits, HasOwnNames, coefficients_of, couplings_at, reads_by, reads_of}
use Rattle.design_gen.specs.Taps.{sources, pins, net_of_pin, driver_of, pins_on, place_of}
use Rattle.design_gen.specs.Couples.{couplings_of}
use Rattle.design_gen.specs.Generated.{net_name, arc_of, arcs_of_pin, arcs_of, couples_of, generated_net, generated}
use Rattle.design_gen.specs.Laws.{IsCount}
use Rattle.design_gen.proofs.Sums.{sum_to_most, sum_to_each, sum_to_times, length-each_below, each_there, sum_by_nets}
use Rattle.design_gen.proofs.PinLaws.{driver_below, pins_few, pins_of_net, pins_in_all}
use Rattle.design_gen.proofs.CoupleLaws.{couplings_in_all}
use Rattle.design_gen.proofs.NetLaws.{tables_sound, couples_well, few_couplings, sinks_of, net_sound}

some_net : (o : Option Net) (a b : Net) → o ≡ Some a → o ≡ Some b → a ≡ b
some_net (Some x) a b e f = some_same (sym e ∙ f) where
  some_same : {x y : Net} → Some x ≡ Some y → x ≡ y
  some_same h = cc
some_net None a b e f = absurd (cc)

same_name : (i j : ℕ) → i < 1000000 → j < 1000000 → net_name i ≡ net_name j → i ≡ j
same_name i j p q e = decimal_injective i j (omega arith) (omega arith) (append_cancel_left (codes "n") (decimal i) (decimal j) e)

-- ---- reads
few_at : (o : Option Net) → IfSome o (λ n. length n.couplings ≤ 16) → unwrap_or (option_map (λ n. length n.couplings) o) 0 ≤ 16
few_at None h = omega arith
few_at (Some n) h = h

four_reads : (d : Parts) (own : ℕ) (a b c e : TimingArc) → own ≤ 16 → ((n : ℕ) → couplings_at d n ≤ 16) → reads_by d own (a ∷ b ∷ c ∷ e ∷ []) ≤ 85
four_reads d own a b c e h k =
    let p = k a.from.0 in let q = k b.from.0 in let r = k c.from.0 in let s = k e.from.0 in
    let t = sum_by-cons (λ x. 1 + couplings_at d x.from.0) a (b ∷ c ∷ e ∷ []) in
    let u = sum_by-cons (λ x. 1 + couplings_at d x.from.0) b (c ∷ e ∷ []) in
    let v = sum_by-cons (λ x. 1 + couplings_at d x.from.0) c (e ∷ []) in
    let w = sum_by-cons (λ x. 1 + couplings_at d x.from.0) e [] in
    omega (arith, h, p, q, r, s, t, u, v, w)

arcs_reads : (b : Bool) (d : Parts) (own : ℕ) (x y z w : TimingArc) → own ≤ 16 → ((n : ℕ) → couplings_at d n ≤ 16) → reads_by d own (if b then [] else x ∷ y ∷ z ∷ w ∷ []) ≤ 85
arcs_reads true d own x y z w h k = omega arith
arcs_reads false d own x y z w h k = four_reads d own x y z w h k

arcs_few : (b : Bool) (x y z w : TimingArc) → length (if b then [] else x ∷ y ∷ z ∷ w ∷ []) ≤ 4
arcs_few true x y z w = omega arith
arcs_few false x y z w = omega arith

abbrev arc_at : ℕ → ℕ → ℕ → TimingArc
arc_at number nets pin = arc_of (driver_of number nets pin) (place_of (driver_of number nets) pin) Rise Fall

abbrev arc_back : ℕ → ℕ → ℕ → TimingArc
arc_back number nets pin = arc_of (driver_of number nets pin) (place_of (driver_of number nets) pin) Fall Rise

module _ (number nets : ℕ) (count : IsCount nets) where
  net : ℕ → Net
  net = generated_net number nets

  nets_sound : (i : ℕ) → IfSome (slice_get (generated number nets).nets i) (IsSoundNet (generated number nets) i)
  nets_sound i = elim (cases_lt i nets) [
    | inl p ↦
        let P : Option Net → Type 0 = λ o. IfSome o (IsSoundNet (generated number nets) i) in
        subst P (sym (each_there (generated_net number nets) nets i p)) (net_sound number nets count i p)
    | inr p ↦
        let P : Option Net → Type 0 = λ o. IfSome o (IsSoundNet (generated number nets) i) in
        let l = length-each_below (generated_net number nets) nets in
        subst P (sym (slice_get_past (generated number nets).nets i (omega (arith, l, p)))) tt
  ]

  inside : (i : ℕ) (n : Net) → slice_get (generated number nets).nets i ≡ Some n → i < nets
  inside i n e = let l = length-each_below (generated_net number nets) nets in let k = slice_get_within (generated number nets).nets i n e in omega (arith, l, k)

  is_net : (i : ℕ) (n : Net) → slice_get (generated number nets).nets i ≡ Some n → n ≡ generated_net number nets i
  is_net i n e = some_net (slice_get (generated number nets).nets i) n (generated_net number nets i) e (each_there (generated_net number nets) nets i (inside i n e))

  own_names : HasOwnNames (generated number nets).nets
  own_names = record {
    differ = λ i j n m h e f same.
        let few = count.most in
        let p = inside i n e in
        let q = inside j m f in
        let k = same_name i j (omega (arith, p, few)) (omega (arith, q, few)) (sym (ap (λ x. x.name) (is_net i n e)) ∙ (same ∙ ap (λ x. x.name) (is_net j m f))) in
        omega (arith, h, k);
  }

  few_there : (n : ℕ) → couplings_at (generated number nets) n ≤ 16
  few_there n = few_at (slice_get (generated number nets).nets n) (elim (cases_lt n nets) [
    | inl p ↦
        let P : Option Net → Type 0 = λ o. IfSome o (λ m. length m.couplings ≤ 16) in
        subst P (sym (each_there (generated_net number nets) nets n p)) (few_couplings number nets count n)
    | inr p ↦
        let P : Option Net → Type 0 = λ o. IfSome o (λ m. length m.couplings ≤ 16) in
        let l = length-each_below (generated_net number nets) nets in
        subst P (sym (slice_get_past (generated number nets).nets n (omega (arith, l, p)))) tt
  ])

  -- ---- limits
  coupling_total : sum_by (λ n. length n.couplings) (generated number nets).nets ≤ 2 * nets
  coupling_total =
      let a = sum_by_nets (λ n. length n.couplings) (generated_net number nets) nets in
      let b = couplings_in_all (couples_of number nets) nets in
      let c = (couples_well number nets count).count in
      omega (arith, a, b, c)

  coefficient_total : sum_by coefficients_of (generated number nets).nets ≤ 32 * nets
  coefficient_total =
      let a = sum_by_nets coefficients_of (generated_net number nets) nets in
      let b = sum_to_most (λ n. coefficients_of (generated_net number nets n)) (λ n. 16 * length (pins_on (driver_of number nets) n (pins nets))) nets (λ n h. each n) in
      let c = sum_to_times 16 (λ n. length (pins_on (driver_of number nets) n (pins nets))) nets in
      let d = pins_in_all (driver_of number nets) nets (pins nets) in
      let e = pins_few nets in
      omega (arith, a, b, c, d, e)
    where
      bounded : (s c t : ℕ) → s ≡ t → c ≤ 16 → s * c ≤ 16 * t
      bounded s c t e h = let k : c * s ≤ 16 * s = mul-le-mul_right s h in let m = mul_comm s c in omega (arith, e, k, m)

      each : (n : ℕ) → coefficients_of (generated_net number nets n) ≤ 16 * length (pins_on (driver_of number nets) n (pins nets))
      each n =
          bounded (length (generated_net number nets n).sinks) (length (couplings_of n (couples_of number nets))) (length (pins_on (driver_of number nets) n (pins nets)))
          (sinks_of number nets count n) (few_couplings number nets count n)

  arc_total : sum_by (λ n. length n.arcs) (generated number nets).nets ≤ 4 * nets
  arc_total =
      let a = sum_by_nets (λ n. length n.arcs) (generated_net number nets) nets in
      let b = sum_to_each (λ n. length (generated_net number nets n).arcs) nets 4
      (λ n h. arcs_few (nat_lt n (sources nets)) (arc_at number nets (2 * (n - sources nets))) (arc_back number nets (2 * (n - sources nets)))
      (arc_at number nets (2 * (n - sources nets) + 1)) (arc_back number nets (2 * (n - sources nets) + 1))) in
      omega (arith, a, b)

  read_total : sum_by (reads_of (generated number nets)) (generated number nets).nets ≤ 85 * nets
  read_total =
      let a = sum_by_nets (reads_of (generated number nets)) (generated_net number nets) nets in
      let b = sum_to_each (λ n. reads_of (generated number nets) (generated_net number nets n)) nets 85
      (λ n h. arcs_reads (nat_lt n (sources nets)) (generated number nets) (length (couplings_of n (couples_of number nets)))
      (arc_at number nets (2 * (n - sources nets))) (arc_back number nets (2 * (n - sources nets)))
      (arc_at number nets (2 * (n - sources nets) + 1)) (arc_back number nets (2 * (n - sources nets) + 1)) (few_couplings number nets count n) few_there) in
      omega (arith, a, b)

  limits : IsWithinLimits (generated number nets)
  limits =
      let few = count.most in
      let l = length-each_below (generated_net number nets) nets in
      let a = coupling_total in
      let b = coefficient_total in
      let c = arc_total in
      let e = read_total in
      record {
        nets = omega (arith, l, few);
        tables = omega arith;
        checks = omega arith;
        couplings = omega (arith, a, few);
        coefficients = omega (arith, b, few);
        arcs = omega (arith, c, few);
        reads = omega (arith, e, few);
      }

  pub sound : IsSound (generated number nets)
  sound = record {
    tables = tables_sound;
    nets = nets_sound;
    names = own_names;
    checks = All-nil (IsSoundCheck (generated number nets));
    limits = limits;
    period = record { range = tt; there = λ h. absurd (omega (arith, h)) };
    miller = record { low = omega arith; mid = omega arith; high = omega arith };
  }

  -- ---- no loop
  lower_pin : (n pin : ℕ) → net_of_pin nets pin ≡ n → All (λ a. a.from.0 < n) (arcs_of_pin (driver_of number nets) pin)
  lower_pin n pin e =
      let b = driver_below number nets pin in
      let k : driver_of number nets pin < n = omega (arith, b, e) in
      All-cons (λ a. a.from.0 < n) (arc_at number nets pin) (arc_back number nets pin ∷ []) k (All-cons (λ a. a.from.0 < n) (arc_back number nets pin) [] k (All-nil (λ a. a.from.0 < n)))

  lower_inputs : (n : ℕ) → n < nets → All (λ a. a.from.0 < n) (arcs_of nets (driver_of number nets) n)
  lower_inputs n h = chosen (nat_lt n (sources nets)) refl where
    chosen : (b : Bool) → nat_lt n (sources nets) ≡ b
        → All (λ a. a.from.0 < n) (if b then [] else arcs_of_pin (driver_of number nets) (2 * (n - sources nets)) ++ arcs_of_pin (driver_of number nets) (2 * (n - sources nets) + 1))
    chosen true e = All-nil (λ a. a.from.0 < n)
    chosen false e =
        let at = pins_of_net nets n h (ltb-false n (sources nets) e) in
        All-append (λ a. a.from.0 < n) (arcs_of_pin (driver_of number nets) (2 * (n - sources nets))) (arcs_of_pin (driver_of number nets) (2 * (n - sources nets) + 1))
        (lower_pin n (2 * (n - sources nets)) at.1) (lower_pin n (2 * (n - sources nets) + 1) at.2)

  reads_lower : (a b : ℕ) → Reads (generated number nets).nets a b → b < a
  reads_lower a b (n, arc, there, among, from) =
      let P : Net → Type 0 = λ m. Contains m.arcs arc in
      let listed = subst P (is_net a n there) among in
      let k = All-contains (λ x. x.from.0 < a) (arcs_of nets (driver_of number nets) a) arc (lower_inputs a (inside a n there)) listed in
      let Q : ℕ → Type 0 = λ i. i < a in
      subst Q from k

  falls : (path : List ℕ) → ((i : ℕ) → i + 1 < length path → Reads (generated number nets).nets (slice_index path i) (slice_index path (i + 1)))
      → (i : ℕ) → i < length path → slice_index path i ≤ slice_index path 0
  falls path steps zero h = omega arith
  falls path steps (suc i) h =
      let a = falls path steps i (omega arith) in
      let e : i + 1 ≡ suc i = omega arith in
      let P : ℕ → Type 0 = λ j. slice_index path j < slice_index path i in
      let b : slice_index path (suc i) < slice_index path i = subst P e (reads_lower (slice_index path i) (slice_index path (i + 1)) (steps i (omega arith))) in
      omega (arith, a, b)

  pub no_loop : (path : List ℕ) → IsLoop (generated number nets).nets path → ⊥
  no_loop path loop =
      let some = loop.some in
      let a = falls path loop.steps (length path - 1) (omega (arith, some)) in
      let b = reads_lower (slice_index path (length path - 1)) (slice_index path 0) loop.closes in
      omega (arith, a, b)
