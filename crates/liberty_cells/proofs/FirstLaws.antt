-- The pins of one group more, and the place of the first of them.
use Rattle.std.proofs.Common.{◌≡◌, ℕ, zero, suc, ◌+◌, ◌-◌, ◌<◌, ◌≤◌, ◌⊎◌, inl, inr, List, [], ◌∷◌, ◌++◌, length, map, get_or, nat_cmp, Some, Err, refl, sym, ap, subst, ◌∙◌, arith, length-append}
use Rattle.std.specs.Prelude.{ℤ}
use Rattle.std.specs.List.{slice_get, slice_index}
use Rattle.std.specs.List.Sorted.{IsBinarySearchResult}
use Rattle.std.proofs.lemmas.Bool.{cases_lt}
use Rattle.std.proofs.lemmas.List.{get_or_append_left, get_or_default, get_or_push}
use Rattle.std.proofs.lemmas.List.Sorted.{searched, IsNonDecreasingBy-push, IsNonDecreasingBy-short}
use Rattle.name_numbers.specs.Names.{Text}
use Rattle.liberty_cells.specs.declared.pin.Role.{Role}
use Rattle.liberty_cells.specs.declared.timing.Timing.{Timing}
use Rattle.liberty_cells.specs.Pins.{PinParts, pin_named}
use Rattle.liberty_cells.specs.Firsts.{AreAlike, IsFirst, IsLast, AreFirsts}

get_left : {X : Type 0} (xs ys : List X) (k : ℕ) → k < length xs → slice_get (xs ++ ys) k ≡ slice_get xs k
get_left [] ys k lt = absurd (omega (arith, lt))
get_left (x ∷ xs) ys zero lt = refl
get_left (x ∷ xs) ys (suc k) lt = get_left xs ys k (omega (arith, lt))

-- ---- groups of pins
same_at : (pins : List PinParts) (place : ℕ) (p q : PinParts) → slice_get pins place ≡ Some p → slice_get pins place ≡ Some q → p ≡ q
same_at [] place p q a b = absurd (cc)
same_at (x ∷ pins) zero p q a b = let k : x ≡ p = cc in let l : x ≡ q = cc in sym k ∙ l
same_at (x ∷ pins) (suc place) p q a b = same_at pins place p q a b

-- a pin is alike itself
pub own_first : (pins : List PinParts) (place : ℕ) → IsFirst pins place place
own_first pins place = record {
  least = omega arith;
  alike = λ p q a b. subst (λ (r : PinParts). AreAlike p r) (same_at pins place p q a b) refl;
}

old_first : (ps ms : List PinParts) (place first : ℕ) → place < length ps → IsFirst ps place first → IsFirst (ps ++ ms) place first
old_first ps ms place first lt is = record {
  least = is.least;
  alike = λ p q a b. is.alike p q (sym (get_left ps ms first (omega (arith, lt, is.least))) ∙ a) (sym (get_left ps ms place lt) ∙ b);
}

module _ (role : Role) (cap : ℤ) (timings : List Timing) where
  abbrev named : Text → PinParts
  named name = pin_named role cap timings name

  mapped_at : (names : List Text) (k : ℕ) (q : PinParts) → slice_get (map named names) k ≡ Some q → (name : Text) × (q ≡ named name)
  mapped_at [] k q h = absurd (cc)
  mapped_at (name ∷ names) zero q h = let e : named name ≡ q = cc in (name, sym e)
  mapped_at (name ∷ names) (suc k) q h = mapped_at names k q h

  named_at : (ps : List PinParts) (names : List Text) (k : ℕ) (q : PinParts) → length ps ≤ k → slice_get (ps ++ map named names) k ≡ Some q → (name : Text) × (q ≡ named name)
  named_at [] names k q ge h = mapped_at names k q h
  named_at (p ∷ ps) names zero q ge h = absurd (omega (arith, ge))
  named_at (p ∷ ps) names (suc k) q ge h = named_at ps names k q (omega (arith, ge)) h

  alike_by : (p q : PinParts) (a b : Text) → p ≡ named a → q ≡ named b → AreAlike p q
  alike_by p q a b x y = subst (λ (r : PinParts). AreAlike r q) (sym x) (subst (λ (r : PinParts). AreAlike (named a) r) (sym y) refl)

  new_first : (ps : List PinParts) (names : List Text) (place : ℕ) → length ps ≤ place → IsFirst (ps ++ map named names) place (length ps)
  new_first ps names place ge = record {
    least = ge;
    alike = λ p q a b.
        let x = named_at ps names (length ps) p (omega arith) a in
        let y = named_at ps names place q ge b in
        alike_by p q x.0 y.0 x.1 y.1;
  }

  group_more : (ps : List PinParts) (fs : List ℕ) (names : List Text) → AreFirsts ps fs → AreFirsts (ps ++ map named names) (fs ++ length ps ∷ [])
  group_more ps fs names are = record {
    rising =
        IsNonDecreasingBy-push (λ n. n) fs (length ps) are.rising
        (λ d some. omega (arith, are.most (length fs - 1) (omega (arith, some)), get_or_default fs (length fs - 1) d 0 (omega (arith, some))));
    most = λ i lt. omega (arith, most_new i lt, length-append ps (map named names));
    each = λ place i lt last. by place i lt last (cases_lt i (length fs));
  }
    where
      new : List PinParts
      new = ps ++ map named names

      gs : List ℕ
      gs = fs ++ length ps ∷ []

      long : length gs ≡ length fs + 1
      long = length-append fs (length ps ∷ [])

      early : (i : ℕ) → i < length fs → slice_index gs i ≡ slice_index fs i
      early i lt = get_or_append_left fs (length ps ∷ []) 0 i lt

      late : (i : ℕ) → length fs ≡ i → slice_index gs i ≡ length ps
      late i e = get_or_push fs (length ps) 0 i e

      most_new : (i : ℕ) → i < length gs → slice_index gs i ≤ length ps
      most_new i lt = elim (cases_lt i (length fs)) [
        | inl less ↦ omega (arith, early i less, are.most i less)
        | inr more ↦ omega (arith, late i (omega (arith, lt, long, more)))
      ]

      -- a place before the next first one is a place of an old pin
      old_last : (place i : ℕ) → i < length fs → IsLast gs place i → (place < length ps) × IsLast fs place i
      old_last place i less last = elim (cases_lt (i + 1) (length fs)) [
        | inl lt ↦
            let next : place < slice_index fs (i + 1) = omega (arith, last.next (omega (arith, lt, long)), early (i + 1) lt) in
            (omega (arith, next, are.most (i + 1) lt), record { there = less; least = omega (arith, last.least, early i less); next = λ k. next })
        | inr ge ↦
            let at : length fs ≡ i + 1 = omega (arith, less, ge) in (
              omega (arith, last.next (omega (arith, at, long)), late (i + 1) at),
              record { there = less; least = omega (arith, last.least, early i less); next = λ k. absurd (omega (arith, k, ge)) },
            )
      ]

      by : (place i : ℕ) → place < length new → IsLast gs place i → (i < length fs) ⊎ (length fs ≤ i) → IsFirst new place (slice_index gs i)
      by place i lt last (inl less) =
          let o = old_last place i less last in
          subst (IsFirst new place) (sym (early i less)) (old_first ps (map named names) place (slice_index fs i) o.0 (are.each place i o.0 o.1))
      by place i lt last (inr ge) =
          let is : slice_index gs i ≡ length ps = late i (omega (arith, last.there, long, ge)) in
          subst (IsFirst new place) (sym is) (new_first ps names place (omega (arith, last.least, is)))

  -- the same by the number of pins before
  pub group_entered : (ps qs : List PinParts) (fs gs : List ℕ) (names : List Text) (before : ℕ) → AreFirsts ps fs → qs ≡ ps ++ map named names
      → before ≡ length ps → gs ≡ fs ++ before ∷ [] → AreFirsts qs gs
  group_entered ps qs fs gs names before are more e push =
      subst (λ (xs : List PinParts). AreFirsts xs gs) (sym more)
      (subst (AreFirsts (ps ++ map named names)) (sym (push ∙ ap (λ (k : ℕ). fs ++ k ∷ []) e)) (group_more ps fs names are))

pub no_firsts : (pins : List PinParts) (firsts : List ℕ) → firsts ≡ [] → AreFirsts pins firsts
no_firsts pins firsts none =
    subst (AreFirsts pins) (sym none) (record {
      rising = IsNonDecreasingBy-short (λ n. n) [] (omega arith);
      most = λ i lt. absurd (omega (arith, lt));
      each = λ place i lt last. absurd (omega (arith, last.there));
    })

-- ---- the first pin of a group by a search

-- where none of the first places is this one, the last before it is that of the first pin
pub first_found : (pins : List PinParts) (firsts : List ℕ) (place after d x : ℕ) → AreFirsts pins firsts → place < length pins → 0 < after
    → IsBinarySearchResult (λ y. nat_cmp y place) firsts (Err after) → x ≡ get_or firsts (after - 1) d → IsFirst pins place x
first_found pins firsts place after d x are lt some h e =
    let s = searched firsts place (Err after) h (λ i j le less. are.rising i j 0 le less) in
    let there : after - 1 < length firsts = omega (arith, s.0, some) in
    let is : x ≡ slice_index firsts (after - 1) = e ∙ get_or_default firsts (after - 1) d 0 there in
    let last : IsLast firsts place (after - 1) = record {
      there = there;
      least = omega (arith, s.1 (after - 1) (omega (arith, some)));
      next = λ k. s.2 (after - 1 + 1) (omega (arith, some)) k;
    } in
    subst (IsFirst pins place) (sym is) (are.each place (after - 1) lt last)
