-- The tree of a net whose nodes have numbers is sound, and its greatest load is counted from its parts.
use Rattle.std.proofs.Common.{◌≡◌, ℕ, zero, suc, ◌+◌, ◌*◌, ◌<◌, ◌≤◌, ◌^◌, Bool, true, false, cond, List, [], ◌∷◌, ◌++◌, length, eqb, refl, sym, ◌∙◌, arith, subst}
use Rattle.std.specs.Prelude.{ℤ, pos, ◌≤ℤ◌, not, Option, Some, None, IfSome, option_map, filter_map}
use Rattle.std.specs.List.{All, cons_option}
use Rattle.std.proofs.lemmas.Bool.{ne_eqb}
use Rattle.std.proofs.lemmas.List.{length-map}
use Rattle.std.proofs.lemmas.List.Elements.{All-cons, All-append, All-nil, All-map}
use Rattle.name_numbers.specs.Names.{Text, number_of}
use Rattle.elmore_tree.specs.Trees.{IsSoundResistor, IsSoundTap, ground_sum, tap_sum, IsSoundTree}
use Rattle.link_rules.specs.declared.circuit.Sink.{Sink}
use Rattle.verilog_net.specs.Bits.{rising}
use Rattle.xt_number.specs.Quantities.{IsQuantity}
use Rattle.link_rules.specs.Wires.{Capacitor, NamedResistor, Wire, Charge, has_resistors, node_count, node_at, sink_node, sink_charges, ground_by, ground_charge}
use Rattle.link_rules.specs.Wires.{total_charges, charges_of, sum_at, tap_of, resistor_of, tree_by}
use Rattle.link_wires.specs.Wires.{charge_sum, AreWithin, AreNatural, HasQuantities, IsNumbered}
use Rattle.link_wires.proofs.GroundLaws.{length-rising, sum_natural, ground_total}

-- ---- all items
all_option : {Y : Type 0} (P : Y → Type 0) (o : Option Y) (ys : List Y) → IfSome o P → All P ys → All P (cons_option o ys)
all_option P None ys h all = all
all_option P (Some y) ys h all = All-cons P y ys h all

all_filtered : {X Y : Type 0} (P : Y → Type 0) (f : X → Option Y) (xs : List X) → All (λ x. IfSome (f x) P) xs → All P (filter_map f xs)
all_filtered P f [] all = All-nil P
all_filtered P f (x ∷ xs) all =
    all_option P (f x) (filter_map f xs) (all 0 x (omega arith)) (all_filtered P f xs (λ i d lt. all (suc i) d (omega (arith, lt))))

all_rising : (P : ℕ → Type 0) (a n : ℕ) → ((k : ℕ) → k < a + n → P k) → All P (rising a n)
all_rising P a zero h = All-nil P
all_rising P a (suc n) h = All-cons P a (rising (a + 1) n) (h a (omega arith)) (all_rising P (a + 1) n (λ k lt. h k (omega (arith, lt))))

-- ---- nodes that are there
node_by : (b : Bool) (m n : ℕ) → m < n → cond b m 0 < cond b n 1
node_by true m n lt = lt
node_by false m n lt = omega arith

sink_by : (b : Bool) (k m n : ℕ) → k < m → (b ≡ true → m < n) → cond b (1 + k) 0 < cond b n 1
sink_by true k m n lt h = let more = h refl in omega (arith, lt, more)
sink_by false k m n lt h = omega arith

some_by : (b : Bool) (m n : ℕ) → (b ≡ true → m < n) → 0 < cond b n 1
some_by true m n h = let more = h refl in omega (arith, more)
some_by false m n h = omega arith

module _ (nodes : List Text) (ends : List Sink) (w : Wire) (numbered : IsNumbered nodes ends w) where
  pub some_nodes : 0 < node_count nodes w
  some_nodes = some_by (has_resistors w) (length ends) (length nodes) numbered.sinks

  sink_there : (k : ℕ) → k < length ends → sink_node w k < node_count nodes w
  sink_there k lt = sink_by (has_resistors w) k (length ends) (length nodes) lt numbered.sinks

  node_there : (name : Text) → number_of name nodes < length nodes → node_at nodes w name < node_count nodes w
  node_there name lt = node_by (has_resistors w) (number_of name nodes) (length nodes) lt

  sinks_within : (k : ℕ) (xs : List Sink) → k + length xs ≤ length ends → AreWithin (node_count nodes w) (sink_charges w k xs)
  sinks_within k [] le = All-nil (λ (c : Charge). c.0 < node_count nodes w)
  sinks_within k (x ∷ xs) le =
      All-cons (λ (c : Charge). c.0 < node_count nodes w) (sink_node w k, x.cap) (sink_charges w (k + 1) xs) (sink_there k (omega (arith, le))) (sinks_within (k + 1) xs (omega (arith, le)))

  ground_within_by : (o : Option ℕ) (m : ℕ) (v : ℤ) → m < node_count nodes w → IfSome (ground_by m v o) (λ (c : Charge). c.0 < node_count nodes w)
  ground_within_by None m v lt = lt
  ground_within_by (Some net) m v lt = tt

  total_within : (caps : List Capacitor) → AreWithin (node_count nodes w) (total_charges w caps)
  total_within [] = All-cons (λ (c : Charge). c.0 < node_count nodes w) (0, w.total) [] some_nodes (All-nil (λ (c : Charge). c.0 < node_count nodes w))
  total_within (c ∷ caps) = All-nil (λ (c : Charge). c.0 < node_count nodes w)

  pub charges_within : AreWithin (node_count nodes w) (charges_of nodes ends w)
  charges_within =
      let P : Charge → Type 0 = λ c. c.0 < node_count nodes w in
      All-append P (sink_charges w 0 ends ++ filter_map (ground_charge nodes w) w.caps) (total_charges w w.caps)
      (All-append P (sink_charges w 0 ends) (filter_map (ground_charge nodes w) w.caps) (sinks_within 0 ends (omega arith))
      (all_filtered P (ground_charge nodes w) w.caps (λ i d lt. ground_within_by _ _ _ (node_there _ (numbered.caps i d lt)))))
      (total_within w.caps)

module _ (nodes : List Text) (w : Wire) (q : HasQuantities w) where
  sinks_natural : (k : ℕ) (xs : List Sink) → All (λ s. IsQuantity s.cap) xs → AreNatural (sink_charges w k xs)
  sinks_natural k [] all = All-nil (λ (c : Charge). pos 0 ≤ℤ c.1)
  sinks_natural k (x ∷ xs) all =
      let one = all 0 x (omega arith) in
      All-cons (λ (c : Charge). pos 0 ≤ℤ c.1) (sink_node w k, x.cap) (sink_charges w (k + 1) xs) one.least (sinks_natural (k + 1) xs (λ i d lt. all (suc i) d (omega (arith, lt))))

  ground_natural_by : (o : Option ℕ) (m : ℕ) (v : ℤ) → pos 0 ≤ℤ v → IfSome (ground_by m v o) (λ (c : Charge). pos 0 ≤ℤ c.1)
  ground_natural_by None m v h = h
  ground_natural_by (Some net) m v h = tt

  total_natural : (caps : List Capacitor) → AreNatural (total_charges w caps)
  total_natural [] = All-cons (λ (c : Charge). pos 0 ≤ℤ c.1) (0, w.total) [] q.total.least (All-nil (λ (c : Charge). pos 0 ≤ℤ c.1))
  total_natural (c ∷ caps) = All-nil (λ (c : Charge). pos 0 ≤ℤ c.1)

  pub charges_natural : (ends : List Sink) → All (λ s. IsQuantity s.cap) ends → AreNatural (charges_of nodes ends w)
  charges_natural ends caps =
      let P : Charge → Type 0 = λ c. pos 0 ≤ℤ c.1 in
      All-append P (sink_charges w 0 ends ++ filter_map (ground_charge nodes w) w.caps) (total_charges w w.caps)
      (All-append P (sink_charges w 0 ends) (filter_map (ground_charge nodes w) w.caps) (sinks_natural 0 ends caps)
      (all_filtered P (ground_charge nodes w) w.caps (λ i d lt. let one = q.caps i d lt in ground_natural_by _ _ _ one.least)))
      (total_natural w.caps)

-- ---- the tree
module _ (nodes : List Text) (ends : List Sink) (w : Wire) (numbered : IsNumbered nodes ends w) (q : HasQuantities w) (caps : All (λ s. IsQuantity s.cap) ends) where
  -- the greatest load, from the charges and the taps
  pub load_is : ground_sum (tree_by nodes ends w).ground ≡ charge_sum (charges_of nodes ends w)
  load_is = ground_total (charges_of nodes ends w) (node_count nodes w) (charges_within nodes ends w numbered) (charges_natural nodes w q ends caps)

  resistors_sound : All (IsSoundResistor (node_count nodes w)) (tree_by nodes ends w).resistors
  resistors_sound = All-map (IsSoundResistor (node_count nodes w)) (resistor_of nodes) w.resistors (λ i d lt.
      let value = q.resistors i d lt in
      record {
        a = apart i d lt (numbered.a i d lt);
        b = apart i d lt (numbered.b i d lt);
        least = value.least;
        most = value.most;
      })
    where
      whole_by : (n m l : ℕ) → 0 < l → m < n → m < cond (not (eqb l 0)) n 1
      whole_by n m l some lt =
          let e : eqb l 0 ≡ false = ne_eqb l 0 (λ e. absurd (omega (arith, some, e))) in
          subst (λ b. m < cond (not b) n 1) (sym e) lt

      apart : (i : ℕ) (d : NamedResistor) → i < length w.resistors → {m : ℕ} → m < length nodes → m < node_count nodes w
      apart i d lt {m} less = whole_by (length nodes) m (length w.resistors) (omega (arith, lt)) less

  tap_by : (o : Option ℕ) (m : ℕ) (v : ℤ) → m < node_count nodes w → IsQuantity v → IfSome (option_map (λ net. record { node = m; cap = v }) o) (IsSoundTap (node_count nodes w))
  tap_by None m v lt value = tt
  tap_by (Some net) m v lt value = record { node = lt; least = value.least; most = value.most }

  taps_sound : All (IsSoundTap (node_count nodes w)) (tree_by nodes ends w).taps
  taps_sound = all_filtered (IsSoundTap (node_count nodes w)) (tap_of nodes w) w.caps (λ i d lt. tap_by _ _ _ (node_there nodes ends w numbered _ (numbered.caps i d lt)) (q.caps i d lt))

  pub tree_sound : node_count nodes w ≤ 65536 → charge_sum (charges_of nodes ends w) + 2 * tap_sum (tree_by nodes ends w).taps ≤ 2 ^ 46 → IsSoundTree (tree_by nodes ends w)
  tree_sound few load = record {
    root = some_nodes nodes ends w numbered;
    most_nodes = few;
    resistors = resistors_sound;
    grounds = length-map (rising 0 (node_count nodes w)) (sum_at (charges_of nodes ends w)) ∙ length-rising 0 (node_count nodes w);
    natural = All-map (λ g. pos 0 ≤ℤ g) (sum_at (charges_of nodes ends w)) (rising 0 (node_count nodes w))
        (all_rising (λ k. pos 0 ≤ℤ sum_at (charges_of nodes ends w) k) 0 (node_count nodes w) (λ k lt. sum_natural (charges_of nodes ends w) k (charges_natural nodes w q ends caps)));
    taps = taps_sound;
    sinks = All-map (λ p. p < node_count nodes w) (sink_node w) (rising 0 (length ends))
        (all_rising (λ k. sink_node w k < node_count nodes w) 0 (length ends) (λ k lt. sink_there nodes ends w numbered k (omega (arith, lt))));
    most_load = rw load_is load;
  }
