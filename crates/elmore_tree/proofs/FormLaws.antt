-- The sums of a sink by the walk's paths.
use Rattle.std.proofs.Common.{◌≡◌, ℕ, zero, suc, ◌+◌, ◌*◌, ◌<◌, ◌≤◌, ◌^◌, Bool, true, false, eqb, ltb, ◌||◌, List, [], ◌∷◌, length, map, take, get_or, refl, sym, ap, ◌∙◌, arith, inl, inr, mul-le-mul_right}
use Rattle.std.specs.Prelude.{ℤ, pos, ◌≤ℤ◌}
use Rattle.std.specs.Int.RustNames.{unsigned_abs}
use Rattle.std.specs.List.{sum_by, All, list_any}
use Rattle.std.proofs.lemmas.Bool.{cases_lt, cases_Bool, or_left, or_right}
use Rattle.std.proofs.lemmas.List.{map_more, get_or-map, get_or_past, length-map, ext_get_or}
use Rattle.std.proofs.lemmas.List.Sums.{sum_by-cons, count_by-le-length}
use Rattle.std.proofs.lemmas.List.Folds.{list_any_at}
use Rattle.std.proofs.lemmas.Int.{ints}
use Rattle.std.proofs.Common.{to_z, of_z, w64, ◌++◌}
use Rattle.std.specs.Int.{w128}
use Rattle.std.proofs.Math.Nat.{mul-le-mul_left}
use Rattle.elmore_tree.specs.declared.walk.Step.{Step}
use Rattle.elmore_tree.specs.declared.part.Tap.{Tap}
use Rattle.elmore_tree.specs.Trees.{TreeParts, IsSoundTree, ground_at, ground_sum, tap_sum, is_needed}
use Rattle.elmore_tree.specs.Paths.{IsPart, IsMeshed, IsLeastUnreached, is_in, nodes_in, resistors_in}
use Rattle.elmore_tree.specs.Sums.{sum_below, shared, base_of, coefficient_of, IsSinkSums, sink_sums}
use Rattle.elmore_tree.specs.Walks.{is_visited, IsGrown, IsWalked, path_of}
use Rattle.elmore_tree.specs.declared.order.TapOrder.{TapOrder}
use Rattle.elmore_tree.specs.Orders.{is_tapped, IsTapOrder, IsRowOf, IsPreorderWalk}
use Rattle.elmore_tree.specs.Gathering.{elmore_sum, cap_sum, IsFirstUnreached, IsAllReached}
use Rattle.elmore_tree.proofs.Bools.{not_both, eqb_same}
use Rattle.elmore_tree.proofs.SumLaws.{below_same}
use Rattle.elmore_tree.proofs.PathLaws.{visited_joined, joined_visited}
use Rattle.elmore_tree.proofs.GatherLaws.{small, shared_fits, elmore_most}

-- ---- sums over lists
below_shift : (f : ℕ → ℕ) (n : ℕ) → sum_below f (suc n) ≡ f 0 + sum_below (λ k. f (suc k)) n
below_shift f zero = omega arith
below_shift f (suc n) = let rest = below_shift f n in omega (arith, rest)

pub below_list : {X : Type 0} (v : X → ℕ) (xs : List X) → sum_below (λ k. get_or (map v xs) k 0) (length xs) ≡ sum_by v xs
below_list v [] = refl
below_list v (x ∷ xs) =
    let e : length (x ∷ xs) ≡ suc (length xs) = omega arith in
    let f : ℕ → ℕ = λ k. get_or (map v (x ∷ xs)) k 0 in
    let shift : sum_below f (suc (length xs)) ≡ v x + sum_below (λ k. get_or (map v xs) k 0) (length xs) = below_shift f (length xs) in
    let rest = below_list v xs in
    let whole = sum_by-cons v x xs in
    ap (λ n. sum_below f n) e ∙ (shift ∙ omega (arith, rest, whole))

pub cap_sum_ground : (t : TreeParts) → IsSoundTree t → cap_sum t (map unsigned_abs t.ground) ≡ ground_sum t.ground
cap_sum_ground t sound = ap (λ n. sum_below (λ k. get_or (map unsigned_abs t.ground) k 0) n) (sym sound.grounds) ∙ below_list unsigned_abs t.ground

pub cap_sum_fits : (t : TreeParts) → IsSoundTree t → cap_sum t (map unsigned_abs t.ground) ≤ 2 ^ 46
cap_sum_fits t sound = let e = cap_sum_ground t sound in let most = sound.most_load in omega (arith, e, most)

pub ground_is : (t : TreeParts) (k : ℕ) → get_or (map unsigned_abs t.ground) k 0 ≡ ground_at t k
ground_is t k =
    elim (cases_lt k (length t.ground)) [
      | inl lt ↦ get_or-map unsigned_abs t.ground k (pos 0) 0 lt
      | inr past ↦
          let len : length (map unsigned_abs t.ground) ≡ length t.ground = length-map t.ground unsigned_abs in
          get_or_past (map unsigned_abs t.ground) k 0 (omega arith) ∙ sym (ap unsigned_abs (get_or_past t.ground k (pos 0) past))
    ]

pub base_is : (t : TreeParts) (steps : List Step) (k : ℕ) → elmore_sum t steps (map unsigned_abs t.ground) k ≡ base_of t (path_of steps) k
base_is t steps k = below_same (λ m. shared t (path_of steps k) (path_of steps m) * get_or (map unsigned_abs t.ground) m 0) (λ m. shared t (path_of steps k) (path_of steps m) * ground_at t m) t.nodes
    (λ m lt. ap (λ n. shared t (path_of steps k) (path_of steps m) * n) (ground_is t m))

-- ---- sizes
natural_at : {X : Type 0} (v : X → ℕ) (xs : List X) (k : ℕ) (d : ℤ) → k < length (map (λ x. pos (v x)) xs) → pos 0 ≤ℤ get_or (map (λ x. pos (v x)) xs) k d
natural_at v [] k d lt = absurd (omega arith)
natural_at v (x ∷ xs) zero d lt = omega (arith, ints)
natural_at v (x ∷ xs) (suc k) d lt = natural_at v xs k d (omega arith)

sum_natural : {X : Type 0} (v : X → ℕ) (xs : List X) → sum_by unsigned_abs (map (λ x. pos (v x)) xs) ≡ sum_by v xs
sum_natural v [] = refl
sum_natural v (x ∷ xs) =
    let rest = sum_natural v xs in
    let a = sum_by-cons unsigned_abs (pos (v x)) (map (λ y. pos (v y)) xs) in
    let b = sum_by-cons v x xs in
    let one : unsigned_abs (pos (v x)) ≡ v x = refl in
    omega (arith, rest, a, b, one)

sum_scaled : {X : Type 0} (c : ℕ) (v u : X → ℕ) (xs : List X) → ((x : X) → v x ≤ c * u x) → sum_by v xs ≤ c * sum_by u xs
sum_scaled c v u [] h = omega arith
sum_scaled c v u (x ∷ xs) h =
    let rest = sum_scaled c v u xs h in
    let a = sum_by-cons v x xs in
    let b = sum_by-cons u x xs in
    let one : v x ≤ c * u x = h x in
    let spread : c * (u x + sum_by u xs) ≡ c * u x + c * sum_by u xs = omega arith in
    let whole : c * sum_by u (x ∷ xs) ≡ c * u x + c * sum_by u xs = ap (λ n. c * n) b ∙ spread in
    omega (arith, rest, a, whole, one)

module _ (t : TreeParts) (steps : List Step) (g : IsGrown t steps) (sound : IsSoundTree t) (few : length steps < 65536) where
  base_most : (p : ℕ) → base_of t (path_of steps) p ≤ 2 ^ 56 * ground_sum t.ground
  base_most p =
      let e = base_is t steps p in
      let most = elmore_most t steps g sound few (map unsigned_abs t.ground) p in
      let all = cap_sum_ground t sound in
      omega (arith, e, most, all)

  pub base_fits : (p : ℕ) → base_of t (path_of steps) p ≤ 2 ^ 102
  base_fits p = let most = base_most p in let load = sound.most_load in omega (arith, most, load)

  pub sink_sums_fit : (p : ℕ) → IsSinkSums (sink_sums t (path_of steps) p)
  sink_sums_fit p =
      let v : Tap → ℕ = λ tap. coefficient_of t (path_of steps) p tap in
      let base = base_most p in
      let load = sound.most_load in
      let coefs : sum_by v t.taps ≤ 2 ^ 56 * tap_sum t.taps = sum_scaled (2 ^ 56) v (λ (tap : Tap). unsigned_abs tap.cap) t.taps
      (λ tap. mul-le-mul_right (unsigned_abs tap.cap) (shared_fits t steps g sound few p (path_of steps tap.node))) in
      let same : sum_by unsigned_abs (map (λ tap. pos (v tap)) t.taps) ≡ sum_by v t.taps = sum_natural v t.taps in
      let one : unsigned_abs (pos (base_of t (path_of steps) p)) ≡ base_of t (path_of steps) p = refl in
      record {
        base = omega (arith, ints);
        coefs = λ k d lt. natural_at v t.taps k d lt;
        most = omega (arith, base, load, coefs, same, one);
      }

-- ---- what a finished walk says
pub part_is : (t : TreeParts) (reached : List Bool) (steps : List Step) → IsWalked t reached steps → IsPart t reached
part_is t reached steps w = record {
  count = w.count;
  each = λ k. (λ h. visited_joined t steps k w.grown (sym (w.marks k) ∙ h), λ j. w.marks k ∙ joined_visited t reached steps w j.0 k j.1);
}

part_is_one : (t : TreeParts) (a b : List Bool) → IsPart t a → IsPart t b → a ≡ b
part_is_one t a b p q = ext_get_or false a b (p.count ∙ sym q.count) (λ i lt. same i)
  where
    same : (i : ℕ) → is_in a i ≡ is_in b i
    same i = elim (cases_Bool (is_in a i)) [
      | inl yes_a ↦ yes_a ∙ sym ((q.each i).1 ((p.each i).0 yes_a))
      | inr no_a ↦ elim (cases_Bool (is_in b i)) [
        | inl yes_b ↦ not_both (is_in a i) ((p.each i).1 ((q.each i).0 yes_b)) no_a
        | inr no_b ↦ no_a ∙ sym no_b
      ]
    ]

pub is_meshed : (t : TreeParts) (reached : List Bool) (steps : List Step) → IsWalked t reached steps → length steps < resistors_in reached t.resistors → IsMeshed t
is_meshed t reached steps w more = (reached, part_is t reached steps w, let sizes = w.sizes in omega arith)

pub not_meshed : (t : TreeParts) (reached : List Bool) (steps : List Step) → IsWalked t reached steps → resistors_in reached t.resistors ≤ length steps → IsMeshed t → ⊥
not_meshed t reached steps w few m =
    let same : m.0 ≡ reached = part_is_one t m.0 reached m.1 (part_is t reached steps w) in
    let sizes = w.sizes in
    let most : nodes_in reached ≤ resistors_in reached t.resistors = rw same at m.2 in
    absurd (omega arith)

pub least_unreached : (t : TreeParts) (needed reached : List Bool) (steps : List Step) (n : ℕ) → IsWalked t reached steps → ((k : ℕ) → is_in needed k ≡ is_needed t k)
    → IsFirstUnreached needed reached n → IsLeastUnreached t n
least_unreached t needed reached steps n w each u = record {
  needed = sym (each n) ∙ u.wanted;
  outside = λ joined. not_both (is_in reached n) (((part_is t reached steps w).each n).1 joined) u.outside;
  least = λ k lt h. ((part_is t reached steps w).each k).0 (u.least k lt (each k ∙ h));
}

pub needed_visited : (t : TreeParts) (needed reached : List Bool) (steps : List Step) → IsWalked t reached steps → ((k : ℕ) → is_in needed k ≡ is_needed t k)
    → IsAllReached needed reached → (k : ℕ) → is_needed t k ≡ true → is_visited t steps k ≡ true
needed_visited t needed reached steps w each all k h = sym (w.marks k) ∙ all.each k (each k ∙ h)

pub few_steps_walked : (t : TreeParts) (reached : List Bool) (steps : List Step) → IsSoundTree t → IsWalked t reached steps → length steps < 65536
few_steps_walked t reached steps sound w =
    let sizes = w.sizes in
    let count = w.count in
    let most = sound.most_nodes in
    omega (arith, count_by-le-length (λ (m : Bool). m) reached)

pub preorder_walk : (t : TreeParts) (reached : List Bool) (steps : List Step) → IsSoundTree t → IsWalked t reached steps → IsPreorderWalk t steps
preorder_walk t reached steps sound w = record { sound = sound; few = few_steps_walked t reached steps sound w; grown = w.grown; order = w.order }

pub ends_marked : (t : TreeParts) (reached : List Bool) → IsSoundTree t → length reached ≡ t.nodes → All (λ r. r.a < length reached) t.resistors
ends_marked t reached sound count = λ k d lt. let fine = sound.resistors k d lt in let a = fine.a in omega arith

-- ---- what has to be reached
pub needed_sink : (t : TreeParts) (i : ℕ) → i < length t.sinks → is_needed t (get_or t.sinks i 0) ≡ true
needed_sink t i lt =
    let p : ℕ = get_or t.sinks i 0 in
    or_right (ltb 0 (ground_at t p)) (list_any (λ q. eqb q p) t.sinks || list_any (λ (tap : Tap). eqb tap.node p) t.taps)
    (or_left (list_any (λ q. eqb q p) t.sinks) (list_any (λ (tap : Tap). eqb tap.node p) t.taps) (list_any_at (λ q. eqb q p) t.sinks i 0 lt (eqb_same p)))

pub needed_tap : (t : TreeParts) (i : ℕ) (d : Tap) → i < length t.taps → is_needed t (get_or t.taps i d).node ≡ true
needed_tap t i d lt =
    let p : ℕ = (get_or t.taps i d).node in
    or_right (ltb 0 (ground_at t p)) (list_any (λ q. eqb q p) t.sinks || list_any (λ (tap : Tap). eqb tap.node p) t.taps)
    (or_right (list_any (λ q. eqb q p) t.sinks) (list_any (λ (tap : Tap). eqb tap.node p) t.taps) (list_any_at (λ (tap : Tap). eqb tap.node p) t.taps i d lt (eqb_same p)))

abbrev pub no_tap : Tap
no_tap = record { node = 0; cap = pos 0 }

pub stored_load : (n : ℕ) (z : ℤ) → z ≡ pos n → n ≤ 2 ^ 46 → to_z w64 (of_z w64 z) ≡ pos n
stored_load n z e fits = rw e (omega (arith, ints))

pub load_fits : (t : TreeParts) → IsSoundTree t → ground_sum t.ground ≤ 2 ^ 46
load_fits t sound = let most = sound.most_load in omega arith

-- ---- what code reads
pub tapped_at : (t : TreeParts) (i : ℕ) (d : Tap) → i < length t.taps → is_tapped t (get_or t.taps i d).node ≡ true
tapped_at t i d lt = list_any_at (λ (tap : Tap). eqb tap.node (get_or t.taps i d).node) t.taps i d lt (eqb_same (get_or t.taps i d).node)

-- the node of a tap has a place in a row
pub place_within : (t : TreeParts) (steps : List Step) (o : TapOrder) (row : List ℕ) (sink k place : ℕ) → IsTapOrder t steps o → IsRowOf t steps o sink row → place ≡ get_or o.places.items k 0 → place < length row
place_within t steps o row sink k place made r is =
    let count : length row ≡ suc (length steps) = r.count in
    let le : get_or o.places.items k 0 ≤ length steps = made.places.within k in
    omega (arith, count, le, is)

pub common_at : (t : TreeParts) (steps : List Step) (o : TapOrder) (sink : ℕ) (items : List Tap) (row : List ℕ) (i : ℕ) (d : Tap) (place : ℕ) → IsRowOf t steps o sink row → items ≡ t.taps → i < length items
    → ((k : ℕ) → is_needed t k ≡ true → is_visited t steps k ≡ true) → place ≡ get_or o.places.items (get_or items i d).node 0
    → get_or row place 0 ≡ shared t (path_of steps sink) (path_of steps (get_or items i d).node)
common_at t steps o sink items row i d place r e lt reached is =
    let lt_t : i < length t.taps = rw (← e) lt in
    let same : get_or items i d ≡ get_or t.taps i d = ap (λ xs. get_or xs i d) e in
    let visited : is_visited t steps (get_or items i d).node ≡ true = rw same (reached (get_or t.taps i d).node (needed_tap t i d lt_t)) in
    let tapped : is_tapped t (get_or items i d).node ≡ true = rw same (tapped_at t i d lt_t) in
    ap (λ q. get_or row q 0) is ∙ r.each (get_or items i d).node tapped visited

-- the node of a tap is there
pub tap_there : (t : TreeParts) (items : List Tap) (i : ℕ) (d : Tap) → IsSoundTree t → items ≡ t.taps → i < length items → (get_or items i d).node < t.nodes
tap_there t items i d sound e lt =
    let fine = sound.taps i d (rw (← e) lt) in
    let same : get_or items i d ≡ get_or t.taps i d = ap (λ xs. get_or xs i d) e in
    rw same fine.node

pub map_turn : {X Y : Type 0} (f : X → Y) (items whole : List X) (i : ℕ) (d : X) (old out : List Y) (y : Y) → items ≡ whole → i < length items → old ≡ map f (take i whole) → out ≡ old ++ y ∷ []
    → y ≡ f (get_or items i d) → out ≡ map f (take (i + 1) whole)
map_turn f items whole i d old out y e lt is_old is_out is_y =
    is_out ∙ (ap (λ xs. xs ++ y ∷ []) is_old ∙ (ap (λ z. map f (take i whole) ++ z ∷ []) (is_y ∙ ap (λ xs. f (get_or xs i d)) e) ∙ sym (map_more f whole i d (rw (← e) lt))))

-- a coefficient that is stored
pub stored : (n : ℕ) (z : ℤ) → z ≡ pos n → n ≤ 2 ^ 102 → to_z w128 (of_z w128 z) ≡ pos n
stored n z e fits = rw e (omega (arith, ints))

pub cap_fits : (t : TreeParts) (items : List Tap) (i : ℕ) (d : Tap) (common : ℕ) → IsSoundTree t → items ≡ t.taps → i < length items → common ≤ 2 ^ 56 → common * unsigned_abs (get_or items i d).cap ≤ 2 ^ 102
cap_fits t items i d common sound e lt most =
    let fine = sound.taps i d (rw (← e) lt) in
    let same : get_or items i d ≡ get_or t.taps i d = ap (λ xs. get_or xs i d) e in
    let cap : unsigned_abs (get_or t.taps i d).cap ≤ 2 ^ 40 = small (get_or t.taps i d).cap fine.least fine.most in
    let one : common * unsigned_abs (get_or t.taps i d).cap ≤ common * 2 ^ 40 = mul-le-mul_left common cap in
    let two : common * 2 ^ 40 ≤ 2 ^ 56 * 2 ^ 40 = mul-le-mul_right (2 ^ 40) most in
    rw same (omega (arith, one, two))

pub sink_there : (t : TreeParts) (items : List ℕ) (i : ℕ) → IsSoundTree t → items ≡ t.sinks → i < length items → get_or items i 0 < t.nodes
sink_there t items i sound e lt = rw e (sound.sinks i 0 (rw (← e) lt))

pub sink_visited : (t : TreeParts) (steps : List Step) (items : List ℕ) (i : ℕ) → items ≡ t.sinks → i < length items → ((k : ℕ) → is_needed t k ≡ true → is_visited t steps k ≡ true) → is_visited t steps (get_or items i 0) ≡ true
sink_visited t steps items i e lt reached = rw e (reached (get_or t.sinks i 0) (needed_sink t i (rw (← e) lt)))

stored_cap : (z : ℤ) → pos 0 ≤ℤ z → z ≤ℤ pos (2 ^ 40) → to_z w64 (of_z w64 z) ≡ z
stored_cap z a b = omega (arith, ints)

pub cap_stored : (t : TreeParts) (items : List Tap) (i : ℕ) (d : Tap) → IsSoundTree t → items ≡ t.taps → i < length items → to_z w64 (of_z w64 (get_or items i d).cap) ≡ (get_or items i d).cap
cap_stored t items i d sound e lt =
    let fine = sound.taps i d (rw (← e) lt) in
    let same : get_or items i d ≡ get_or t.taps i d = ap (λ xs. get_or xs i d) e in
    rw same (stored_cap (get_or t.taps i d).cap fine.least fine.most)
