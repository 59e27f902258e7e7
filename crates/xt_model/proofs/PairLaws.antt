-- The pairs of coupled nets: what a list of them has after some nets, and after a sort without repeats.
use Rattle.std.proofs.Common.{◌≡◌, ◌≢◌, ℕ, ◌+◌, ◌<◌, ◌≤◌, ◌==◌, ◌&&◌, Bool, true, false, nat_lt, List, [], ◌++◌, length, map, take, get_or, Some, refl, sym, ap, ◌∙◌, arith, inl, inr, ◌⊎◌}
use Rattle.std.specs.List.{slice_get, All, Contains, sum_by, dedup, IsDistinct}
use Rattle.std.specs.List.Sorted.{IsPermutation, IsSorted, IsStrictlySortedBy}
use Rattle.std.specs.Cmp.{IsTotalOrder, IsEquivalence, unsigned_tied, tied_then}
use Rattle.std.specs.Ordering.{nat_cmp, ordering_then, eq_by_cmp}
use Rattle.std.specs.declared.cmp.Ordering.{Ordering}
use Rattle.std.specs.declared.cmp.Ordering.TheVariants.{Less, Equal}
use Rattle.std.proofs.lemmas.Bool.{cases_lt, cases_eq}
use Rattle.std.proofs.lemmas.Bool.Decides.{nat_tests}
use Rattle.std.proofs.lemmas.Cmp.{then_total, on_total, nat_cmp_total, and_equiv, on_equiv, nat_eq_equiv, tied_itself}
use Rattle.std.proofs.lemmas.List.{get_or-map, length-map, length-append, take_all}
use Rattle.std.proofs.lemmas.List.Elements.{All-append, All-map, All-contains, Contains-get_or, Contains-append_left, Contains-append_right}
use Rattle.std.proofs.lemmas.List.Kept.{Contains-dedup, Contains-from_dedup, IsStrictlySortedBy-dedup}
use Rattle.std.proofs.lemmas.List.Sorted.{Contains-permutation, IsPermutation-sym}
use Rattle.std.proofs.lemmas.List.Sums.{sum_by_more}
use Rattle.std.proofs.lemmas.Map.Keys.{Less-from_sorted, IsDistinct-from_apart}
use Rattle.std.proofs.lemmas.Option.{same_Some, slice_get_within, get_or_from_slice_get, slice_get-get_or}
use Rattle.std.proofs.lemmas.Map.Made.{length-le_from_is_member}
use Rattle.std.proofs.lemmas.Map.Views.{list_any-from_Contains, Contains-from_any}
use Rattle.xt_model.specs.declared.net.Coupling.{Coupling}
use Rattle.xt_model.specs.declared.net.Net.{Net}
use Rattle.xt_model.specs.Levels.{CouplesTo, ArePairs, IsPairCount}
use Rattle.xt_model.specs.Couples.{pair_of, CoupleToOthers}

-- a pair of coupled nets, the lesser number first
abbrev pub IsCoupled : List Net → ℕ × ℕ → Type 0
IsCoupled nets p = (p.0 < p.1) × (CouplesTo nets p.0 p.1 ⊎ CouplesTo nets p.1 p.0)

pair_up : (a b : ℕ) → a < b → pair_of a b ≡ (a, b)
pair_up a b h = let t : nat_lt a b ≡ true = grind (arith, nat_tests) in rw t refl

pair_down : (a b : ℕ) → b ≤ a → pair_of a b ≡ (b, a)
pair_down a b h = let t : nat_lt a b ≡ false = grind (arith, nat_tests) in rw t refl

-- the pairs of the nets before a number, with repeats
pub record ArePairsBefore (nets : List Net) (pairs : List (ℕ × ℕ)) (own : ℕ) : Type 0 where
  pub coupled : All (IsCoupled nets) pairs
  pub has : (i : ℕ) (n : Net) (k : Coupling) → i < own → slice_get nets i ≡ Some n → Contains n.couplings k → Contains pairs (pair_of i k.to.0)
  pub few : length pairs ≤ sum_by (λ n. length n.couplings) (take own nets)

pair_coupled : (nets : List Net) (own : ℕ) (n : Net) (k : Coupling) → slice_get nets own ≡ Some n → Contains n.couplings k → k.to.0 ≢ own → IsCoupled nets (pair_of own k.to.0)
pair_coupled nets own n k at has other =
    elim (cases_lt own k.to.0) [
      | inl lt ↦ rw (pair_up own k.to.0 lt) (lt, inl (n, k, at, has, refl))
      | inr ge ↦
          let less : k.to.0 < own = omega arith in
          rw (pair_down own k.to.0 ge) (less, inr (n, k, at, has, refl))
    ]

contains_map : {X Y : Type 0} (f : X → Y) (xs : List X) (x : X) → Contains xs x → Contains (map f xs) (f x)
contains_map f xs x h =
    let within : h.0 < length xs = h.1 in
    let len : length (map f xs) ≡ length xs = length-map xs f in
    (h.0, omega arith, get_or-map f xs h.0 x (f x) within ∙ ap f h.2)

pub pairs_more : (nets : List Net) (pairs more : List (ℕ × ℕ)) (own : ℕ) (n : Net) → CoupleToOthers nets → slice_get nets own ≡ Some n
    → more ≡ pairs ++ map (λ k. pair_of own k.to.0) n.couplings → ArePairsBefore nets pairs own → ArePairsBefore nets more (own + 1)
pairs_more nets pairs more own n others at is so_far =
    let f : Coupling → ℕ × ℕ = λ k. pair_of own k.to.0 in
    let lt : own < length nets = slice_get_within nets own n at in
    rw is (record {
      coupled = All-append (IsCoupled nets) pairs (map f n.couplings) so_far.coupled
          (All-map (IsCoupled nets) f n.couplings (λ j d h. pair_coupled nets own n (get_or n.couplings j d) at (Contains-get_or n.couplings j d h) (others own n at j d h)));
      has = λ i m k below there h. elim (cases_eq i own) [
        | inl e ↦
            let here : slice_get nets own ≡ Some m = rw e at there in
            let same : m ≡ n = same_Some m n (sym here ∙ at) in
            let held : Contains n.couplings k = rw same at h in
            rw e (Contains-append_right pairs (map f n.couplings) (f k) (contains_map f n.couplings k held))
        | inr ne ↦ Contains-append_left pairs (map f n.couplings) (pair_of i k.to.0) (so_far.has i m k (omega arith) there h)
      ];
      few =
          let sum : sum_by (λ m. length m.couplings) (take (own + 1) nets) ≡ sum_by (λ m. length m.couplings) (take own nets) + length (get_or nets own n).couplings = sum_by_more (λ m. length m.couplings) nets own n lt in
          let here : length (get_or nets own n).couplings ≡ length n.couplings = ap (λ (m : Net). length m.couplings) (get_or_from_slice_get nets own n n at) in
          let joined : length (pairs ++ map f n.couplings) ≡ length pairs + length (map f n.couplings) = length-append pairs (map f n.couplings) in
          let len : length (map f n.couplings) ≡ length n.couplings = length-map n.couplings f in
          let few : length pairs ≤ sum_by (λ m. length m.couplings) (take own nets) = so_far.few in
          omega arith;
    })

-- the order of pairs, by the first numbers and then by the second, and their equality
abbrev pub pair_cmp : ℕ × ℕ → ℕ × ℕ → Ordering
pair_cmp p q = ordering_then (nat_cmp p.0 q.0) (nat_cmp p.1 q.1)

abbrev pub pair_eq : ℕ × ℕ → ℕ × ℕ → Bool
pair_eq p q = (p.0 == q.0) && (p.1 == q.1)

pair_total : IsTotalOrder pair_cmp
pair_total = then_total (on_total (λ p. p.0) nat_cmp_total) (on_total (λ p. p.1) nat_cmp_total)

pair_equal : IsEquivalence pair_eq
pair_equal = and_equiv (on_equiv (λ p. p.0) nat_eq_equiv) (on_equiv (λ p. p.1) nat_eq_equiv)

pair_same : (p q : ℕ × ℕ) → pair_eq p q ≡ true → p ≡ q
pair_same (a, b) (x, y) h =
    let first : a ≡ x = grind (arith, nat_tests) in
    let second : b ≡ y = grind (arith, nat_tests) in
    let e : ◌≡◌ {A = ℕ × ℕ} (a, b) (x, y) = rw (first, second) refl in
    e

not_true : (b : Bool) → (b ≡ true → ⊥) → b ≡ false
not_true true h = absurd (h refl)
not_true false h = refl

pair_ties : (p q : ℕ × ℕ) → pair_eq p q ≡ eq_by_cmp pair_cmp p q
pair_ties p q =
    ap (λ t. t && (p.1 == q.1)) (sym (unsigned_tied p.0 q.0))
    ∙ (ap (λ t. eq_by_cmp nat_cmp p.0 q.0 && t) (sym (unsigned_tied p.1 q.1)) ∙ tied_then (nat_cmp p.0 q.0) (nat_cmp p.1 q.1))

pub pairs_none : (nets : List Net) → ArePairsBefore nets [] 0
pairs_none nets = record {
  coupled = λ k d h. absurd (omega arith);
  has = λ i n k below at h. absurd (omega arith);
  few = omega arith;
}

pub pairs_few : (nets : List Net) (pairs : List (ℕ × ℕ)) (own : ℕ) → length nets ≤ own → ArePairsBefore nets pairs own → length pairs ≤ sum_by (λ n. length n.couplings) nets
pairs_few nets pairs own past all = rw (take_all own nets past) at all.few

pub pairs_are : (nets : List Net) (pairs sorted : List (ℕ × ℕ)) (own : ℕ) → length nets ≤ own → ArePairsBefore nets pairs own → IsPermutation pairs sorted → IsSorted pair_cmp sorted
    → ArePairs nets (dedup pair_eq sorted)
pairs_are nets pairs sorted own past all moved up =
    let kept = dedup pair_eq sorted in
    let strict : IsStrictlySortedBy pair_cmp (dedup pair_eq sorted) = IsStrictlySortedBy-dedup pair_total pair_ties sorted up in
    record {
      once = λ i j p q lt at_i at_j same.
          (let first : get_or kept i p ≡ p = get_or_from_slice_get kept i p p at_i in
          let second : get_or kept j p ≡ q = get_or_from_slice_get kept j q p at_j in
          let less : pair_cmp (get_or kept i p) (get_or kept j p) ≡ Less = Less-from_sorted pair_cmp kept i j p strict lt (slice_get_within kept j q at_j) in
          let itself : pair_cmp p p ≡ Equal = tied_itself pair_total p in
          let self : pair_cmp p p ≡ Less = rw (first, second, ← same) at less in
          absurd (cc));
      members = λ a b. (
        (λ h. All-contains (IsCoupled nets) pairs (a, b) all.coupled
            (Contains-permutation sorted pairs (a, b) (IsPermutation-sym pairs sorted moved) (Contains-from_dedup pair_eq sorted (a, b) h))),
        (λ h. Contains-dedup pair_equal pair_same sorted (a, b) (Contains-permutation pairs sorted (a, b) moved
            (elim h.1 [
              | inl c ↦
                  let lt = slice_get_within nets a c.0 c.2 in
                  let has : Contains pairs (pair_of a c.1.to.0) = all.has a c.0 c.1 (omega arith) c.2 c.3 in
                  rw (c.4, pair_up a b h.0) at has
              | inr c ↦
                  let lt = slice_get_within nets b c.0 c.2 in
                  let has : Contains pairs (pair_of b c.1.to.0) = all.has b c.0 c.1 (omega arith) c.2 c.3 in
                  let le : a ≤ b = omega (arith, h.0) in
                  rw (c.4, pair_down b a le) at has
            ]))),
      );
    }

no_repeats : (nets : List Net) (pairs : List (ℕ × ℕ)) → ArePairs nets pairs → IsDistinct pair_eq pairs
no_repeats nets pairs all = IsDistinct-from_apart pair_eq pairs (λ i j d lt within.
    let differ : pair_eq (get_or pairs i d) (get_or pairs j d) ≡ true → ⊥ =
    λ same. all.once i j (get_or pairs i d) (get_or pairs j d) lt (slice_get-get_or pairs i d (omega arith)) (slice_get-get_or pairs j d within) (pair_same (get_or pairs i d) (get_or pairs j d) same) in
    not_true (pair_eq (get_or pairs i d) (get_or pairs j d)) differ)

no_more_pairs : (nets : List Net) (xs ys : List (ℕ × ℕ)) → ArePairs nets xs → ArePairs nets ys → length xs ≤ length ys
no_more_pairs nets xs ys hx hy = length-le_from_is_member pair_equal xs ys (no_repeats nets xs hx)
    (λ q t. list_any-from_Contains pair_equal q ys ((hy.members q.0 q.1).1 ((hx.members q.0 q.1).0 (Contains-from_any pair_same q xs t))))

-- nets have one count of coupled pairs
pub pair_counts_are_one : (nets : List Net) (a b : ℕ) → IsPairCount nets a → IsPairCount nets b → a ≡ b
pair_counts_are_one nets a b h k =
    let up : length h.0 ≤ length k.0 = no_more_pairs nets h.0 k.0 h.1 k.1 in
    let down : length k.0 ≤ length h.0 = no_more_pairs nets k.0 h.0 k.1 h.1 in
    omega (arith, h.2, k.2)
