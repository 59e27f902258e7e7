-- Numbers that a stable sort by level puts in order are the order by level.
use Rattle.std.proofs.Common.{◌≡◌, ◌↔◌, ℕ, zero, suc, ◌+◌, ◌-◌, ◌<◌, ◌≤◌, ◌==◌, false, List, [], ◌∷◌, ◌++◌, length, get_or, refl, sym, ap, ◌∙◌, add-zero, arith, inl, inr, subst, ◌⊎◌}
use Rattle.std.specs.List.{Contains, IsDistinct, range_with_len}
use Rattle.std.specs.List.Sorted.{IsPermutation, IsNonDecreasingBy, IsSortedByKey, IsStableByKey}
use Rattle.std.specs.Ordering.{nat_cmp}
use Rattle.std.proofs.lemmas.Bool.{cases_eq}
use Rattle.std.proofs.lemmas.Bool.Decides.{nat_tests}
use Rattle.std.proofs.lemmas.List.{get_or_default}
use Rattle.std.proofs.lemmas.List.FromFn.{length-range_with_len, get_or-range_with_len}
use Rattle.std.proofs.lemmas.List.Sorted.{Contains-permutation, IsPermutation-sym, length_permutation, ties_still_rise}
use Rattle.std.proofs.lemmas.Map.Keys.{IsDistinct-from_apart, IsDistinct-IsPermutation, apart_from_distinct}
use Rattle.xt_model.specs.declared.net.Net.{Net}
use Rattle.xt_model.specs.Levels.{StandsBefore, IsOrderBy}

range_push : (a n : ℕ) → range_with_len a (n + 1) ≡ range_with_len a n ++ (a + n) ∷ []
range_push a zero = rw add-zero refl
range_push a (suc n) =
    let e : suc n + 1 ≡ suc (n + 1) = omega arith in
    let more : range_with_len (a + 1) (n + 1) ≡ range_with_len (a + 1) n ++ ((a + 1) + n) ∷ [] = range_push (a + 1) n in
    let last : (a + 1) + n ≡ a + suc n = omega arith in
    rw (e, more, last) refl

range_distinct : (n : ℕ) → IsDistinct (λ x y. x == y) (range_with_len 0 n)
range_distinct n = IsDistinct-from_apart (λ x y. x == y) (range_with_len 0 n) (λ i j d lt within.
    let len : length (range_with_len 0 n) ≡ n = length-range_with_len 0 n in
    let first : get_or (range_with_len 0 n) i d ≡ 0 + i = get_or-range_with_len 0 n i d (omega arith) in
    let second : get_or (range_with_len 0 n) j d ≡ 0 + j = get_or-range_with_len 0 n j d (omega arith) in
    grind (arith, nat_tests))

range_rises : (n : ℕ) → IsSortedByKey (λ x. x) nat_cmp (range_with_len 0 n)
range_rises n = λ k d low within.
    let len : length (range_with_len 0 n) ≡ n = length-range_with_len 0 n in
    let first : get_or (range_with_len 0 n) k d ≡ 0 + k = get_or-range_with_len 0 n k d (omega arith) in
    let second : get_or (range_with_len 0 n) (k + 1) d ≡ 0 + (k + 1) = get_or-range_with_len 0 n (k + 1) d (omega arith) in
    grind (arith, nat_tests)

range_has : (n i : ℕ) → i < n → Contains (range_with_len 0 n) i
range_has n i lt =
    let len : length (range_with_len 0 n) ≡ n = length-range_with_len 0 n in
    (i, omega arith, get_or-range_with_len 0 n i i lt ∙ omega arith)

range_below : (n i : ℕ) → Contains (range_with_len 0 n) i → i < n
range_below n i h =
    let len : length (range_with_len 0 n) ≡ n = length-range_with_len 0 n in
    let within : h.0 < length (range_with_len 0 n) = h.1 in
    let here : get_or (range_with_len 0 n) h.0 i ≡ 0 + h.0 = get_or-range_with_len 0 n h.0 i (omega arith) in
    let is : get_or (range_with_len 0 n) h.0 i ≡ i = h.2 in
    omega arith

stands_before_trans : (levels : List ℕ) (a b c : ℕ) → StandsBefore levels a b → StandsBefore levels b c → StandsBefore levels a c
stands_before_trans levels a b c (inl p) (inl q) = inl (omega arith)
stands_before_trans levels a b c (inl p) (inr q) = inl (omega (arith, q.0))
stands_before_trans levels a b c (inr p) (inl q) = inl (omega (arith, p.0))
stands_before_trans levels a b c (inr p) (inr q) = inr (p.0 ∙ q.0, omega (arith, p.1, q.1))

module _ (levels ys : List ℕ) (next : (k : ℕ) → k + 1 < length ys → StandsBefore levels (get_or ys k 0) (get_or ys (k + 1) 0)) where
  far_before : (i more : ℕ) → (i + 1) + more < length ys → StandsBefore levels (get_or ys i 0) (get_or ys ((i + 1) + more) 0)
  far_before i zero h = let e : (i + 1) + 0 ≡ i + 1 = omega arith in rw e (next i (omega arith))
  far_before i (suc more) h =
      let e : (i + 1) + suc more ≡ ((i + 1) + more) + 1 = omega arith in
      rw e (stands_before_trans levels (get_or ys i 0) (get_or ys ((i + 1) + more) 0) (get_or ys (((i + 1) + more) + 1) 0) (far_before i more (omega arith)) (next ((i + 1) + more) (omega arith)))

-- what a stable sort by level leaves of the numbers of the nets
pub sorted_is_order : (nets : List Net) (levels xs ys : List ℕ) → xs ≡ range_with_len 0 (length nets) → IsPermutation xs ys
    → IsNonDecreasingBy (λ net. get_or levels net 0) ys → IsStableByKey (λ net. get_or levels net 0) nat_cmp xs ys → IsOrderBy nets levels ys
sorted_is_order nets levels xs ys is moved rises stable =
    let n = length nets in
    let level : ℕ → ℕ = λ net. get_or levels net 0 in
    let len : length (range_with_len 0 n) ≡ n = length-range_with_len 0 n in
    let count : length ys ≡ length xs = length_permutation xs ys moved in
    let apart : IsDistinct (λ x y. x == y) ys = IsDistinct-IsPermutation (λ x y. x == y) (λ x y. grind (arith, nat_tests)) xs ys moved (rw is (range_distinct n)) in
    let next : (k : ℕ) → k + 1 < length ys → StandsBefore levels (get_or ys k 0) (get_or ys (k + 1) 0) = λ k h.
    (let up : level (get_or ys k 0) ≤ level (get_or ys (k + 1) 0) = rises k (k + 1) 0 (omega arith) h in
    elim (cases_eq (level (get_or ys k 0)) (level (get_or ys (k + 1) 0))) [
      | inl e ↦
          let number : get_or ys k 0 ≤ get_or ys (k + 1) 0 = ties_still_rise (λ x. x) level xs ys (rw is (range_rises n)) stable k 0 h e in
          let differ : (get_or ys k 0 == get_or ys (k + 1) 0) ≡ false = apart_from_distinct (λ x y. x == y) ys k (k + 1) 0 apart (omega arith) h in
          let less : get_or ys k 0 < get_or ys (k + 1) 0 = grind (arith, nat_tests) in
          inr (e, less)
      | inr ne ↦ inl (omega arith)
    ]) in
    record {
      count = count ∙ (ap length is ∙ len);
      members = λ net. (
        (λ h. range_below n net (rw is at (Contains-permutation ys xs net (IsPermutation-sym xs ys moved) h))),
        (λ h. Contains-permutation xs ys net moved (rw is (range_has n net h))),
      );
      sorted = λ i j lt h.
          let more = j - (i + 1) in
          let e : j ≡ (i + 1) + more = omega arith in
          rw e (far_before levels ys next i more (omega arith));
    }

pub range_more : (n : ℕ) → range_with_len 0 n ++ n ∷ [] ≡ range_with_len 0 (n + 1)
range_more n = let e : 0 + n ≡ n = omega arith in sym (rw e at (range_push 0 n))

-- numbers of which each stands before all later ones
record Rises (levels ns : List ℕ) : Type 0 where
  each : (i j : ℕ) → i < j → j < length ns → StandsBefore levels (get_or ns i 0) (get_or ns j 0)

never_both : (levels : List ℕ) (a b : ℕ) → StandsBefore levels a b → StandsBefore levels b a → ⊥
never_both levels a b (inl p) (inl q) = absurd (omega arith)
never_both levels a b (inl p) (inr q) = absurd (omega (arith, q.0))
never_both levels a b (inr p) (inl q) = absurd (omega (arith, p.0))
never_both levels a b (inr p) (inr q) = absurd (omega (arith, p.1, q.1))

first_or_later : (x : ℕ) (xs : List ℕ) (n : ℕ) → Contains (x ∷ xs) n → (x ≡ n) ⊎ Contains xs n
first_or_later x xs n (zero, h, e) = inl e
first_or_later x xs n (suc k, h, e) = inr (k, omega arith, e)

later : (x : ℕ) (xs : List ℕ) (n : ℕ) → Contains xs n → Contains (x ∷ xs) n
later x xs n h = let within : h.0 < length xs = h.1 in (suc h.0, omega arith, h.2)

rises_after : (levels : List ℕ) (x : ℕ) (xs : List ℕ) → Rises levels (x ∷ xs) → Rises levels xs
rises_after levels x xs r = record { each = λ i j lt h. r.each (suc i) (suc j) (omega arith) (omega arith) }

first_before : (levels : List ℕ) (x : ℕ) (xs : List ℕ) (n : ℕ) → Rises levels (x ∷ xs) → Contains xs n → StandsBefore levels x n
first_before levels x xs n r h =
    let within : h.0 < length xs = h.1 in
    let is : get_or xs h.0 0 ≡ n = get_or_default xs h.0 0 n within ∙ h.2 in
    let P : ℕ → Type 0 = λ m. StandsBefore levels x m in
    subst P is (r.each 0 (suc h.0) (omega arith) (omega arith))

rising_are_one : (levels xs ys : List ℕ) → Rises levels xs → Rises levels ys → ((n : ℕ) → Contains xs n → Contains ys n) → ((n : ℕ) → Contains ys n → Contains xs n) → xs ≡ ys
rising_are_one levels [] [] rx ry to back = refl
rising_are_one levels [] (y ∷ ys) rx ry to back = let h = back y (0, omega arith, refl) in absurd (omega (arith, h.1))
rising_are_one levels (x ∷ xs) [] rx ry to back = let h = to x (0, omega arith, refl) in absurd (omega (arith, h.1))
rising_are_one levels (x ∷ xs) (y ∷ ys) rx ry to back =
    let head : x ≡ y =
    elim (first_or_later y ys x (to x (0, omega arith, refl))) [
      | inl e ↦ sym e
      | inr in_ys ↦ elim (first_or_later x xs y (back y (0, omega arith, refl))) [
        | inl e ↦ e
        | inr in_xs ↦ absurd (never_both levels x y (first_before levels x xs y rx in_xs) (first_before levels y ys x ry in_ys))
      ]
    ] in
    let rest : xs ≡ ys = rising_are_one levels xs ys (rises_after levels x xs rx) (rises_after levels y ys ry)
    (λ n h. elim (first_or_later y ys n (to n (later x xs n h))) [
      | inl e ↦ (let same : n ≡ x = sym (head ∙ e) in let before : StandsBefore levels x x = rw same at (first_before levels x xs n rx h) in absurd (never_both levels x x before before))
      | inr there ↦ there
    ])
    (λ n h. elim (first_or_later x xs n (back n (later y ys n h))) [
      | inl e ↦ (let same : n ≡ y = sym (sym head ∙ e) in let before : StandsBefore levels y y = rw same at (first_before levels y ys n ry h) in absurd (never_both levels y y before before))
      | inr there ↦ there
    ]) in
    cc

-- nets and levels have one order
pub orders_are_one : (nets : List Net) (levels a b : List ℕ) → IsOrderBy nets levels a → IsOrderBy nets levels b → a ≡ b
orders_are_one nets levels a b ha hb = rising_are_one levels a b (record { each = ha.sorted }) (record { each = hb.sorted })
    (λ n h. (hb.members n).1 ((ha.members n).0 h)) (λ n h. (ha.members n).1 ((hb.members n).0 h))

-- an order by level is that of other nets too, where they are as many
pub same_order : (xs ys : List Net) (levels order : List ℕ) → length xs ≡ length ys → IsOrderBy xs levels order → IsOrderBy ys levels order
same_order xs ys levels order same o = record {
  count = o.count ∙ same;
  members = subst (λ n. (net : ℕ) → Contains order net ↔ (net < n)) same o.members;
  sorted = o.sorted;
}
