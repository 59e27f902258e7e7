-- The sweep over changes that ascend: what was found before those that are left.
use Rattle.std.proofs.Common.{◌≡◌, ℕ, zero, suc, ◌+◌, ◌<◌, ◌≤◌, ◌⊎◌, inl, inr, refl, sym, ap, subst, ◌∙◌, Bool, true, false, List, [], ◌∷◌, length, drop, get_or, ℤ, pos, ◌+ℤ◌, ◌≤ℤ◌, arith}
use Rattle.std.specs.List.{slice_get}
use Rattle.std.specs.List.Sorted.{IsPermutation}
use Rattle.std.proofs.lemmas.Int.{ints}
use Rattle.std.proofs.lemmas.List.{drop_more, drop_all}
use Rattle.glitch_noise.specs.declared.change.Change.{Change}
use Rattle.glitch_noise.specs.declared.sweep.Best.{Best}
use Rattle.glitch_noise.specs.Changes.{sum_to, IsFrom, Ascend, IsBest, is_later}
use Rattle.glitch_noise.proofs.Tests.{le_or_gt, lt_or_ge, true_or_false}
use Rattle.glitch_noise.proofs.Sums.{sum_to-past, sum_to-before, sum_to-permutation, from_weaker}

-- the first of the changes that are left has come by moment m
abbrev pub HasCome : ℤ → List Change → Type 0
HasCome m [] = ⊥
HasCome m (c ∷ more) = c.at ≤ℤ m

-- of sums S over time: before the changes that are left, the greatest is `most`, first at `moment`; from the first of
-- them on, S is `sum` and what they add
pub record IsSwept (S : ℤ → ℤ) (left : List Change) (sum most moment : ℤ) : Type 0 where
  pub natural : pos 0 ≤ℤ most
  pub bound : (m : ℤ) → IsFrom (m +ℤ pos 1) left → S m ≤ℤ most
  pub reached : pos 1 ≤ℤ most → S moment ≡ most
  pub first : pos 1 ≤ℤ most → (m : ℤ) → IsFrom (m +ℤ pos 1) left → S m ≡ most → moment ≤ℤ m
  pub early : pos 1 ≤ℤ most → IsFrom moment left
  pub agrees : (m : ℤ) → HasCome m left → S m ≡ sum +ℤ sum_to m left

come_from : (a m : ℤ) (cs : List Change) → IsFrom a cs → HasCome m cs → a ≤ℤ m
come_from a m [] h k = absurd k
come_from a m (c ∷ cs) h k = omega (arith, ints, h, k)

module _ (S : ℤ → ℤ) (c : Change) (more : List Change) (sum most moment : ℤ) (rising : Ascend (c ∷ more)) (h : IsSwept S (c ∷ more) sum most moment) where
  here : (m : ℤ) → c.at ≤ℤ m → IsFrom (m +ℤ pos 1) more → S m ≡ sum +ℤ c.by
  here m come before =
      let a = h.agrees m come in
      let b = sum_to-past m c more come in
      let z = sum_to-before m more rising.1 before in
      omega (arith, ints, a, b, z)

  agree_more : (m : ℤ) → HasCome m more → S m ≡ (sum +ℤ c.by) +ℤ sum_to m more
  agree_more m come =
      let at = come_from c.at m more rising.0 come in
      let a = h.agrees m at in
      let b = sum_to-past m c more at in
      omega (arith, ints, a, b)

  -- the next change comes at the same moment
  pub same_moment : (d : Change) (rest : List Change) → more ≡ d ∷ rest → d.at ≤ℤ c.at → IsSwept S more (sum +ℤ c.by) most moment
  same_moment d rest is at =
      let P : List Change → Type 0 = λ cs. IsFrom c.at cs in
      let low : c.at ≤ℤ d.at = subst P is rising.0 in
      let back : (m : ℤ) → IsFrom (m +ℤ pos 1) more → (m +ℤ pos 1) ≤ℤ c.at =
      λ m p. (let Q : List Change → Type 0 = λ cs. IsFrom (m +ℤ pos 1) cs in let q : (m +ℤ pos 1) ≤ℤ d.at = subst Q is p in omega (arith, ints, q, at)) in
      record {
        natural = h.natural;
        bound = λ m p. h.bound m (back m p);
        reached = h.reached;
        first = λ some m p e. h.first some m (back m p) e;
        early = λ some. from_weaker moment c.at more (h.early some) rising.0;
        agrees = agree_more;
      }

  -- it comes later, and the sum is no greater than what was found
  pub no_better : IsFrom (c.at +ℤ pos 1) more → (sum +ℤ c.by) ≤ℤ most → IsSwept S more (sum +ℤ c.by) most moment
  no_better later low = record {
    natural = h.natural;
    bound = λ m p. elim (le_or_gt c.at m) [
      | inl x ↦ (let e = here m x.1 p in omega (arith, ints, e, low))
      | inr x ↦ h.bound m x.1
    ];
    reached = h.reached;
    first = λ some m p e. elim (le_or_gt c.at m) [
      | inl x ↦ (let y : moment ≤ℤ c.at = h.early some in let z = x.1 in omega (arith, ints, y, z))
      | inr x ↦ h.first some m x.1 e
    ];
    early = λ some. from_weaker moment c.at more (h.early some) rising.0;
    agrees = agree_more;
  }

  -- it comes later, and the sum is greater
  pub better : IsFrom (c.at +ℤ pos 1) more → (most +ℤ pos 1) ≤ℤ (sum +ℤ c.by) → IsSwept S more (sum +ℤ c.by) (sum +ℤ c.by) c.at
  better later high =
      let n = h.natural in
      record {
        natural = omega (arith, ints, n, high);
        bound = λ m p. elim (le_or_gt c.at m) [
          | inl x ↦ (let e = here m x.1 p in omega (arith, ints, e))
          | inr x ↦ (let y = h.bound m x.1 in omega (arith, ints, y, high))
        ];
        reached = λ some. here c.at (omega (arith, ints)) later;
        first = λ some m p e. elim (le_or_gt c.at m) [
          | inl x ↦ x.1
          | inr x ↦ absurd (let y = h.bound m x.1 in omega (arith, ints, y, high, e))
        ];
        early = λ some. rising.0;
        agrees = agree_more;
      }

-- ---- by the number of the change
ascend_drop : (cs : List Change) (i : ℕ) → Ascend cs → Ascend (drop i cs)
ascend_drop cs zero h = h
ascend_drop [] (suc i) h = h
ascend_drop (c ∷ cs) (suc i) h = ascend_drop cs i h.1

-- what the test of the next change says of those that are left
later_left : (m : ℤ) (cs : List Change) (i : ℕ) → is_later m (slice_get cs i) ≡ true → IsFrom (m +ℤ pos 1) (drop i cs)
later_left m [] zero e = tt
later_left m [] (suc i) e = tt
later_left m (c ∷ cs) zero e = elim (lt_or_ge m c.at) [ inl x ↦ x.1 | inr x ↦ absurd (let y = x.0 in cc) ]
later_left m (c ∷ cs) (suc i) e = later_left m cs i e

not_later : (m : ℤ) (cs : List Change) (i : ℕ) → is_later m (slice_get cs i) ≡ false → (d : Change) × (rest : List Change) × (drop i cs ≡ d ∷ rest) × (d.at ≤ℤ m)
not_later m [] zero e = absurd (cc)
not_later m [] (suc i) e = absurd (cc)
not_later m (c ∷ cs) zero e = elim (lt_or_ge m c.at) [ inl x ↦ absurd (let y = x.0 in cc) | inr x ↦ (c, cs, refl, x.1) ]
not_later m (c ∷ cs) (suc i) e = not_later m cs i e

module _ (S : ℤ → ℤ) (cs : List Change) (i : ℕ) (c : Change) (sum most moment : ℤ) (within : i < length cs) (rising : Ascend cs) (h : IsSwept S (drop i cs) sum most moment) where
  abbrev at_i : Change
  at_i = get_or cs i c

  opened : IsSwept S (at_i ∷ drop (i + 1) cs) sum most moment
  opened = let P : List Change → Type 0 = λ left. IsSwept S left sum most moment in subst P (drop_more cs i c within) h

  rises_on : Ascend (at_i ∷ drop (i + 1) cs)
  rises_on = subst Ascend (drop_more cs i c within) (ascend_drop cs i rising)

  pub took : is_later at_i.at (slice_get cs (i + 1)) ≡ true → (most +ℤ pos 1) ≤ℤ (sum +ℤ at_i.by)
      → IsSwept S (drop (i + 1) cs) (sum +ℤ at_i.by) (sum +ℤ at_i.by) at_i.at
  took e high = better S at_i (drop (i + 1) cs) sum most moment rises_on opened (later_left at_i.at cs (i + 1) e) high

  pub kept : (is_later at_i.at (slice_get cs (i + 1)) ≡ false) ⊎ ((sum +ℤ at_i.by) ≤ℤ most) → IsSwept S (drop (i + 1) cs) (sum +ℤ at_i.by) most moment
  kept (inl e) = let n = not_later at_i.at cs (i + 1) e in same_moment S at_i (drop (i + 1) cs) sum most moment rises_on opened n.0 n.1 n.2 n.3
  kept (inr low) = elim (true_or_false (is_later at_i.at (slice_get cs (i + 1)))) [
    | inl e ↦ no_better S at_i (drop (i + 1) cs) sum most moment rises_on opened (later_left at_i.at cs (i + 1) e) low
    | inr e ↦ let n = not_later at_i.at cs (i + 1) e in same_moment S at_i (drop (i + 1) cs) sum most moment rises_on opened n.0 n.1 n.2 n.3
  ]

-- the same of the sums of changes, with those from number i on left
abbrev pub IsSweptTo : List Change → ℕ → ℤ → ℤ → ℤ → Type 0
IsSweptTo cs i sum most moment = IsSwept (λ m. sum_to m cs) (drop i cs) sum most moment

-- before the first change
pub swept_none : (cs : List Change) → Ascend cs → IsSweptTo cs 0 (pos 0) (pos 0) (pos 0)
swept_none cs rising = record {
  natural = omega (arith, ints);
  bound = λ m p. (let e = sum_to-before m cs rising p in omega (arith, ints, e));
  reached = λ some. absurd (omega (arith, ints, some));
  first = λ some. absurd (omega (arith, ints, some));
  early = λ some. absurd (omega (arith, ints, some));
  agrees = λ m come. omega (arith, ints);
}

-- a turn of the loop over all of them
module _ (cs : List Change) (i : ℕ) (c : Change) (sum by at next : ℤ) (b best : Best) (within : i < length cs) (rising : Ascend cs) (h : IsSweptTo cs i sum b.sum b.moment)
    (is_by : by ≡ (get_or cs i c).by) (is_at : at ≡ (get_or cs i c).at) (is_next : next ≡ sum +ℤ by) where
  same_next : next ≡ sum +ℤ (get_or cs i c).by
  same_next = is_next ∙ ap (λ z. sum +ℤ z) is_by

  later_at : (t : Bool) → is_later at (slice_get cs (i + 1)) ≡ t → is_later (get_or cs i c).at (slice_get cs (i + 1)) ≡ t
  later_at t e = let P : ℤ → Type 0 = λ m. is_later m (slice_get cs (i + 1)) ≡ t in subst P is_at e

  pub turn_took : is_later at (slice_get cs (i + 1)) ≡ true → (b.sum +ℤ pos 1) ≤ℤ next → best ≡ record { sum = next; moment = at } → IsSweptTo cs (i + 1) next best.sum best.moment
  turn_took later high is =
      let k = took (λ m. sum_to m cs) cs i c sum b.sum b.moment within rising h (later_at true later) (let e = same_next in omega (arith, ints, e, high)) in
      let P : ℤ → Type 0 = λ s. IsSweptTo cs (i + 1) s s (get_or cs i c).at in
      let Q : ℤ → Type 0 = λ m. IsSweptTo cs (i + 1) next next m in
      let R : Best → Type 0 = λ x. IsSweptTo cs (i + 1) next x.sum x.moment in
      subst R (sym is) (subst Q (sym is_at) (subst P (sym same_next) k))

  pub turn_kept : (is_later at (slice_get cs (i + 1)) ≡ false) ⊎ (next ≤ℤ b.sum) → best ≡ b → IsSweptTo cs (i + 1) next best.sum best.moment
  turn_kept or is =
      let why : (is_later (get_or cs i c).at (slice_get cs (i + 1)) ≡ false) ⊎ ((sum +ℤ (get_or cs i c).by) ≤ℤ b.sum) = elim or [
        | inl e ↦ inl (later_at false e)
        | inr l ↦ inr (let e = same_next in omega (arith, ints, e, l))
      ] in
      let k = kept (λ m. sum_to m cs) cs i c sum b.sum b.moment within rising h why in
      let P : ℤ → Type 0 = λ s. IsSweptTo cs (i + 1) s b.sum b.moment in
      let R : Best → Type 0 = λ x. IsSweptTo cs (i + 1) next x.sum x.moment in
      subst R (sym is) (subst P (sym same_next) k)

-- after the last one
pub swept_all : (cs : List Change) (i : ℕ) (sum most moment : ℤ) → length cs ≤ i → IsSweptTo cs i sum most moment → IsBest cs most moment
swept_all cs i sum most moment past h =
    let none : drop i cs ≡ [] = drop_all i cs past in
    let P : ℤ → List Change → Type 0 = λ m xs. IsFrom (m +ℤ pos 1) xs in
    let free : (m : ℤ) → IsFrom (m +ℤ pos 1) (drop i cs) = λ m. subst (P m) (sym none) tt in
    record {
      natural = h.natural;
      bound = λ m. h.bound m (free m);
      reached = h.reached;
      first = λ some m e. h.first some m (free m) e;
    }

-- the best of changes in another order
pub best_in_order : (cs sorted : List Change) (most moment : ℤ) → IsPermutation cs sorted → IsBest sorted most moment → IsBest cs most moment
best_in_order cs sorted most moment p h =
    let same : (m : ℤ) → sum_to m sorted ≡ sum_to m cs = λ m. sum_to-permutation m cs sorted p in
    record {
      natural = h.natural;
      bound = λ m. (let e = same m in let b = h.bound m in omega (arith, ints, e, b));
      reached = λ some. sym (same moment) ∙ h.reached some;
      first = λ some m e. h.first some m (same m ∙ e);
    }
