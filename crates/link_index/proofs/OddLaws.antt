-- Whether a cell is taken, pin by pin.
use Rattle.std.specs.Prelude.{◌≡◌, refl, ℕ, zero, suc, Bool, true, false, ◌||◌, List, [], ◌∷◌, length, Some}
use Rattle.std.specs.List.{list_any, slice_get}
use Rattle.std.proofs.Common.{sym, ap, subst, ◌∙◌, arith, take, take_all, ◌+◌, ◌<◌, ◌≤◌, ◌≢◌}
use Rattle.std.proofs.lemmas.List.Folds.{list_any_more}
use Rattle.std.proofs.lemmas.Option.{slice_get_within, get_or_from_slice_get}
use Rattle.liberty_cells.specs.declared.cell.Cell.{Cell}
use Rattle.liberty_cells.specs.Pins.{PinParts}
use Rattle.liberty_cells.specs.Firsts.{IsFirst}
use Rattle.link_rules.specs.Refusals.{is_odd_pin, is_odd_cell}
use Rattle.link_index.proofs.PlaceLaws.{there}

-- ---- tests of one item after another
left_false : (a b : Bool) → (a || b) ≡ false → a ≡ false
left_false true b e = absurd (cc)
left_false false b e = refl

right_false : (a b : Bool) → (a || b) ≡ false → b ≡ false
right_false true b e = absurd (cc)
right_false false b e = e

or_true : (a b : Bool) → b ≡ true → (a || b) ≡ true
or_true true b e = refl
or_true false b e = e

both_false : (a b : Bool) → a ≡ false → b ≡ false → (a || b) ≡ false
both_false true b e f = absurd (cc)
both_false false b e f = f

module _ {X : Type 0} (p : X → Bool) where
  -- none of the first items passes: so this one does not
  none_at : (xs : List X) (n i : ℕ) (x : X) → i < n → slice_get xs i ≡ Some x → list_any p (take n xs) ≡ false → p x ≡ false
  none_at [] n i x lt h none = absurd (cc)
  none_at (y ∷ ys) zero i x lt h none = absurd (omega (arith, lt))
  none_at (y ∷ ys) (suc n) zero x lt h none =
      let e : y ≡ x = cc in
      subst (λ (z : X). p z ≡ false) e (left_false (p y) (list_any p (take n ys)) none)
  none_at (y ∷ ys) (suc n) (suc i) x lt h none = none_at ys n i x (omega (arith, lt)) h (right_false (p y) (list_any p (take n ys)) none)

  -- one of the first items passes: so one of all does
  one_among : (xs : List X) (n : ℕ) → list_any p (take n xs) ≡ true → list_any p xs ≡ true
  one_among xs zero one = absurd (cc)
  one_among [] (suc n) one = absurd (cc)
  one_among (x ∷ xs) (suc n) one = by (p x) (one_among xs n) one
    where
      by : (b : Bool) → (list_any p (take n xs) ≡ true → list_any p xs ≡ true) → (b || list_any p (take n xs)) ≡ true → (b || list_any p xs) ≡ true
      by true rest e = refl
      by false rest e = rest e

  one_more : (xs : List X) (i : ℕ) (x : X) → slice_get xs i ≡ Some x → list_any p (take (i + 1) xs) ≡ (list_any p (take i xs) || p x)
  one_more xs i x h =
      list_any_more p xs i x (slice_get_within xs i x h) ∙ ap (λ (y : X). list_any p (take i xs) || p y) (get_or_from_slice_get xs i x x h)

-- ---- the pins of a cell
module _ (cell : Cell) (pins : List PinParts) (place : ℕ) (none : list_any (is_odd_pin cell) (take place pins) ≡ false) where
  -- a pin that is not taken
  pub odd_by_itself : (q : PinParts) → slice_get pins place ≡ Some q → is_odd_pin cell q ≡ list_any (is_odd_pin cell) (take (place + 1) pins)
  odd_by_itself q at =
      sym (one_more (is_odd_pin cell) pins place q at ∙ ap (λ (b : Bool). b || is_odd_pin cell q) none)

  -- one that is alike a pin before it
  pub odd_by_first : (first : ℕ) → place < length pins → IsFirst pins place first → first ≢ place → false ≡ list_any (is_odd_pin cell) (take (place + 1) pins)
  odd_by_first first within is other =
      let p = there pins first (omega (arith, within, is.least)) in
      let q = there pins place within in
      let same : is_odd_pin cell q.0 ≡ is_odd_pin cell p.0 = ap (is_odd_pin cell) (is.alike p.0 q.0 p.1 q.1) in
      let no : is_odd_pin cell p.0 ≡ false = none_at (is_odd_pin cell) pins place first p.0 (omega (arith, is.least, other)) p.1 none in
      sym (same ∙ no) ∙ odd_by_itself q.0 q.1

pub odd_cell : (cell : Cell) (place : ℕ) → list_any (is_odd_pin cell) (take place cell.pins) ≡ true → true ≡ is_odd_cell cell
unfolding is_odd_cell
odd_cell cell place one = sym (or_true cell.latch (list_any (is_odd_pin cell) cell.pins) (one_among (is_odd_pin cell) cell.pins place one))

pub fine_cell : (cell : Cell) (place : ℕ) → cell.latch ≡ false → length cell.pins ≤ place → list_any (is_odd_pin cell) (take place cell.pins) ≡ false → false ≡ is_odd_cell cell
unfolding is_odd_cell
fine_cell cell place latch all none =
    sym (both_false cell.latch (list_any (is_odd_pin cell) cell.pins) latch (ap (list_any (is_odd_pin cell)) (sym (take_all place cell.pins all)) ∙ none))
