-- Where the numbers of a cell rise along both axes, so do its values.
use Rattle.std.proofs.Common.{◌≡◌, ℕ, ◌<◌, ◌≤◌, inl, inr, refl, sym, ◌∙◌, ap, subst, List, length, get_or, ℤ, pos, ◌-ℤ◌, ◌*ℤ◌, ◌≤ℤ◌, ◌<ℤ◌, arith}
use Rattle.std.specs.Prelude.{IsTrue}
use Rattle.std.specs.Int.{int_div_euclid, int_min, int_max}
use Rattle.std.proofs.lemmas.Bool.{cases_lt}
use Rattle.std.proofs.lemmas.Int.{ints, clamps}
use Rattle.xt_model.specs.Tables.{IsIndex, TableParts}
use Rattle.xt_meaning.specs.Lookup.{Span, cell_value, clamped, span_of, value_in}
use Rattle.table_box.specs.declared.cell.Cell.{Cell}
use Rattle.table_box.specs.declared.place.Place.{Place}
use Rattle.table_box.specs.declared.stretch.Stretch.{Stretch}
use Rattle.table_box.specs.Spans.{AreAlike, IsSpan, span_in}
use Rattle.table_box.specs.Stretches.{IsStretch, box_of}
use Rattle.table_box.specs.Rows.{row_least, row_greatest}
use Rattle.table_box.specs.Mixes.{mixed, along_slews}
use Rattle.table_box.specs.Cells.{AreEnds, AreNeighbours, AreRising, IsRising, IsSmallCell}
use Rattle.table_box.specs.Ranges.{IsRange}
use Rattle.table_box.proofs.Products.{mixed_least, mixed_most, mixed_rises, mul_mono}
use Rattle.table_box.proofs.Bilinear.{IsBetween, along_loads, area_positive, fraction_mono, fraction_scaled, on_line, swapped_area, value_by_load, value_by_slew}
use Rattle.table_box.proofs.Axis.{ends_mono, span_several, span_single}
use Rattle.table_box.proofs.Places.{placed_sound}
use Rattle.table_box.proofs.Small.{alike_span, one_cell}
use Rattle.table_box.proofs.Sweeps.{box_of_ends, row_of_rising}

-- ---- plain numbers
pub mixed_more : (p q p' q' b a : ℤ) → p ≤ℤ p' → q ≤ℤ q' → pos 0 ≤ℤ b → pos 0 ≤ℤ a → mixed p q b a ≤ℤ mixed p' q' b a
mixed_more p q p' q' b a h k m n = let x = mul_mono p p' b h m in let y = mul_mono q q' a k n in omega (arith, ints, x, y)

named : (a a' b b' : ℤ) → a ≡ a' → b ≡ b' → a' ≤ℤ b' → a ≤ℤ b
named a a' b b' e f h = omega (arith, ints, e, f, h)

unnamed : (a a' b b' : ℤ) → a ≡ a' → b ≡ b' → a ≤ℤ b → a' ≤ℤ b'
unnamed a a' b b' e f h = omega (arith, ints, e, f, h)

least_of_two : (a b : ℤ) → a ≤ℤ b → a ≡ int_min a b
least_of_two a b h = omega (arith, ints, clamps, h)

greatest_of_two : (a b : ℤ) → a ≤ℤ b → b ≡ int_max a b
greatest_of_two a b h = omega (arith, ints, clamps, h)

pub chained : (a b c : ℤ) → a ≤ℤ b → b ≤ℤ c → a ≤ℤ c
chained a b c h k = omega (arith, ints, h, k)

-- ---- places in one cell
-- a greater number lies further above the first line
further : (x y x' y' g g' a b : ℤ) → x' ≤ℤ y' → g ≡ g' → a ≡ x' -ℤ g → b ≡ y' -ℤ g' → a ≤ℤ b
further x y x' y' g g' a b h e p q = omega (arith, ints, h, e, p, q)

pub above_rises : (xs : List ℤ) (x y : ℤ) (p r : Span) → IsIndex xs → p ≡ span_of xs x → r ≡ span_of xs y → p.first ≡ r.first → x ≤ℤ y → p.above ≤ℤ r.above
above_rises xs x y p r ok e f same h = elim (cases_lt 1 (length xs)) [
  | inl u ↦
      let a = e ∙ span_several xs ok x u in let b = f ∙ span_several xs ok y u in
      let i = sym (ap (λ s. s.first) a) ∙ (same ∙ ap (λ s. s.first) b) in
      further x y (clamped xs x) (clamped xs y) _ _ p.above r.above (ends_mono _ _ x y h) (ap (λ n. get_or xs n (pos 0)) i) (ap (λ s. s.above) a) (ap (λ s. s.above) b)
  | inr u ↦
      let some = ok.some in let one : length xs ≡ 1 = omega arith in
      let a = ap (λ s. s.above) (e ∙ span_single xs ok x one) in let b = ap (λ s. s.above) (f ∙ span_single xs ok y one) in
      omega (arith, ints, a, b)
]

-- ---- values in one cell
module _ (t : TableParts) (s : Span) (sound_s : IsSpan (length t.slews) s) (c : Span) (sound_c : IsSpan (length t.loads) c) where
  rising_area : pos 0 <ℤ (s.width *ℤ c.width)
  rising_area = area_positive s.width c.width sound_s.positive sound_c.positive

  -- a value of a cell rises with the load
  pub by_load : (d : Span) → AreAlike c d → c.above ≤ℤ d.above → along_slews t c.first s ≤ℤ along_slews t c.second s → value_in t s c ≤ℤ value_in t s d
  by_load d alike up h =
      let p = along_slews t c.first s in let q = along_slews t c.second s in
      let m = mixed_rises p q c.below c.above d.below d.above (d.above -ℤ c.above) h (omega (arith, ints, up)) (omega (arith, ints))
      (omega (arith, ints, alike.whole, alike.width, sound_c.whole)) in
      named _ _ _ _ (value_by_load t s c)
      (value_by_load t s d
      ∙ (ap (λ i. int_div_euclid (mixed (along_slews t i s) (along_slews t d.second s) d.below d.above) (s.width *ℤ d.width)) (sym alike.first)
      ∙ (ap (λ i. int_div_euclid (mixed p (along_slews t i s) d.below d.above) (s.width *ℤ d.width)) (sym alike.second)
      ∙ ap (λ w. int_div_euclid (mixed p q d.below d.above) (s.width *ℤ w)) (sym alike.width))))
      (fraction_mono _ _ (s.width *ℤ c.width) rising_area m)

  -- and with the slew
  pub by_slew : (r : Span) → AreAlike s r → s.above ≤ℤ r.above → along_loads t s.first c ≤ℤ along_loads t s.second c → value_in t s c ≤ℤ value_in t r c
  by_slew r alike up h =
      let p = along_loads t s.first c in let q = along_loads t s.second c in
      let m = mixed_rises p q s.below s.above r.below r.above (r.above -ℤ s.above) h (omega (arith, ints, up)) (omega (arith, ints))
      (omega (arith, ints, alike.whole, alike.width, sound_s.whole)) in
      named _ _ _ _ (value_by_slew t s c)
      (value_by_slew t r c
      ∙ (ap (λ i. int_div_euclid (mixed (along_loads t i c) (along_loads t r.second c) r.below r.above) (r.width *ℤ c.width)) (sym alike.first)
      ∙ (ap (λ i. int_div_euclid (mixed p (along_loads t i c) r.below r.above) (r.width *ℤ c.width)) (sym alike.second)
      ∙ ap (λ w. int_div_euclid (mixed p q r.below r.above) (w *ℤ c.width)) (sym alike.width))))
      (fraction_mono _ _ (s.width *ℤ c.width) rising_area m)

  -- it is no greater than that on the second line, and no less than that on the first
  line_of : (q : ℤ) → int_div_euclid (q *ℤ c.width) (s.width *ℤ c.width) ≡ int_div_euclid q s.width
  line_of q = swapped_area (q *ℤ c.width) s.width c.width ∙ fraction_scaled q c.width s.width sound_c.positive sound_s.positive

  pub up_to_line : along_slews t c.first s ≤ℤ along_slews t c.second s → value_in t s c ≤ℤ int_div_euclid (along_slews t c.second s) s.width
  up_to_line h =
      let p = along_slews t c.first s in let q = along_slews t c.second s in
      let m = mixed_most q p q c.below c.above c.width h (omega (arith, ints)) sound_c.below sound_c.above (sym sound_c.whole) in
      named _ _ _ _ (value_by_load t s c) (sym (line_of q)) (fraction_mono _ _ (s.width *ℤ c.width) rising_area m)

  pub from_line : along_slews t c.first s ≤ℤ along_slews t c.second s → int_div_euclid (along_slews t c.first s) s.width ≤ℤ value_in t s c
  from_line h =
      let p = along_slews t c.first s in let q = along_slews t c.second s in
      let m = mixed_least p p q c.below c.above c.width (omega (arith, ints)) h sound_c.below sound_c.above (sym sound_c.whole) in
      named _ _ _ _ (sym (line_of p)) (value_by_load t s c) (fraction_mono _ _ (s.width *ℤ c.width) rising_area m)

  -- and between those of both rows
  row_of : (q : ℤ) → int_div_euclid (q *ℤ s.width) (s.width *ℤ c.width) ≡ int_div_euclid q c.width
  row_of q = fraction_scaled q s.width c.width sound_s.positive sound_c.positive

  pub up_to_row : along_loads t s.first c ≤ℤ along_loads t s.second c → value_in t s c ≤ℤ int_div_euclid (along_loads t s.second c) c.width
  up_to_row h =
      let p = along_loads t s.first c in let q = along_loads t s.second c in
      let m = mixed_most q p q s.below s.above s.width h (omega (arith, ints)) sound_s.below sound_s.above (sym sound_s.whole) in
      named _ _ _ _ (value_by_slew t s c) (sym (row_of q)) (fraction_mono _ _ (s.width *ℤ c.width) rising_area m)

  pub from_row : along_loads t s.first c ≤ℤ along_loads t s.second c → int_div_euclid (along_loads t s.first c) c.width ≤ℤ value_in t s c
  from_row h =
      let p = along_loads t s.first c in let q = along_loads t s.second c in
      let m = mixed_least p p q s.below s.above s.width (omega (arith, ints)) h sound_s.below sound_s.above (sym sound_s.whole) in
      named _ _ _ _ (sym (row_of p)) (value_by_slew t s c) (fraction_mono _ _ (s.width *ℤ c.width) rising_area m)

-- ---- a cell that rises
module _ (k : Cell) (small : IsSmallCell k) (rising : IsRising k) (s c : Span) (s_alike : AreAlike (span_in k.slew.now) s) (c_alike : AreAlike (span_in k.load.now) c) where
  ff : k.first_first ≡ cell_value k.table.now s.first c.first
  ff = small.first_first ∙ (ap (λ i. cell_value k.table.now i k.load.now.first) s_alike.first ∙ ap (cell_value k.table.now s.first) c_alike.first)

  fs : k.first_second ≡ cell_value k.table.now s.first c.second
  fs = small.first_second ∙ (ap (λ i. cell_value k.table.now i k.load.now.second) s_alike.first ∙ ap (cell_value k.table.now s.first) c_alike.second)

  sf : k.second_first ≡ cell_value k.table.now s.second c.first
  sf = small.second_first ∙ (ap (λ i. cell_value k.table.now i k.load.now.first) s_alike.second ∙ ap (cell_value k.table.now s.second) c_alike.first)

  ss : k.second_second ≡ cell_value k.table.now s.second c.second
  ss = small.second_second ∙ (ap (λ i. cell_value k.table.now i k.load.now.second) s_alike.second ∙ ap (cell_value k.table.now s.second) c_alike.second)

  -- the numbers at a slew rise with the load, and those at a load with the slew
  pub columns_rise : along_slews k.table.now c.first s ≤ℤ along_slews k.table.now c.second s
  columns_rise = mixed_more _ _ _ _ s.below s.above (unnamed _ _ _ _ ff fs rising.first_row) (unnamed _ _ _ _ sf ss rising.second_row) s_alike.below s_alike.above

  pub rows_rise : along_loads k.table.now s.first c ≤ℤ along_loads k.table.now s.second c
  rows_rise = mixed_more _ _ _ _ c.below c.above (unnamed _ _ _ _ ff sf rising.first_column) (unnamed _ _ _ _ fs ss rising.second_column) c_alike.below c_alike.above

-- a place in the cell of another that is the same
alike_moved : (k l : Place) (s : Span) → l ≡ k → AreAlike (span_in k) s → AreAlike (span_in l) s
alike_moved k l s e h = rw e h

alike_to : (xs : List ℤ) (x y : ℤ) (k p r : Place) → IsIndex xs → k ≡ p → span_in p ≡ span_of xs x → span_in r ≡ span_of xs y → p.first ≡ r.first → AreAlike (span_in k) (span_in r)
alike_to xs x y k p r ok same e f h = rw same (one_cell xs x y (span_in p) (span_in r) ok e f h)

-- ---- several loads, from a cell that rises to another
module _ (k l : Cell) (loads : Stretch) (ends : AreEnds k l loads) (rising : AreRising k l loads) where
  abbrev pub t : TableParts
  t = k.table.now

  abbrev pub c : Span
  c = span_in loads.start

  abbrev pub d : Span
  d = span_in loads.end

  sound_c : IsSpan (length t.loads) c
  sound_c = placed_sound _ _ _ ends.first.table.loads ends.loads.start

  sound_d : IsSpan (length t.loads) d
  sound_d = placed_sound _ _ _ ends.first.table.loads ends.loads.end

  module _ (s : Span) (s_alike : AreAlike (span_in k.slew.now) s) where
    sound_s : IsSpan (length t.slews) s
    sound_s = alike_span _ _ s ends.first.slew s_alike

    first_rises : along_slews t c.first s ≤ℤ along_slews t c.second s
    first_rises = columns_rise k ends.first rising.first s c s_alike ends.start

    last_rises : along_slews t d.first s ≤ℤ along_slews t d.second s
    last_rises = rw ends.table at (columns_rise l ends.last rising.last s d (alike_moved _ _ _ ends.slew s_alike) ends.end)

    -- the line between neighbours
    lower : AreNeighbours loads → value_in t s c ≤ℤ int_div_euclid (along_slews t d.first s) s.width
    lower n =
        let h = up_to_line t s sound_s c sound_c first_rises in
        subst (λ i. value_in t s c ≤ℤ int_div_euclid (along_slews t i s) s.width) n.line h

    upper : int_div_euclid (along_slews t d.first s) s.width ≤ℤ value_in t s d
    upper = from_line t s sound_s d sound_d last_rises

    start_to_end : value_in t s c ≤ℤ value_in t s d
    start_to_end = elim rising.near [
      | inl inside ↦
          let same = ends.loads.one_cell inside in
          by_load t s sound_s c sound_c d (one_cell _ _ _ _ _ ends.first.table.loads ends.loads.start ends.loads.end same)
          (above_rises _ _ _ c d ends.first.table.loads ends.loads.start ends.loads.end same ends.loads.ordered) first_rises
      | inr n ↦ chained _ _ _ (lower n) upper
    ]

    lines_between : (j : ℕ) → loads.first ≤ j → j < loads.last → IsBetween (value_in t s c) (value_in t s d) (value_in t s (span_of t.loads (get_or t.loads j (pos 0))))
    lines_between j h g = elim rising.near [
      | inl inside ↦ let none = ends.loads.none_between inside in absurd (omega arith)
      | inr n ↦
          let last = n.last in let first = n.first in let within = ends.loads.last.within in
          let j_is : d.first ≡ j = omega (arith, first, last, h, g) in
          let line = on_line t ends.first.table s sound_s j (omega arith) in
          let at_line = line ∙ ap (λ i. int_div_euclid (along_slews t i s) s.width) (sym j_is) in
          record { low = named _ _ _ _ refl at_line (lower n); high = named _ _ _ _ at_line refl upper }
    ]

    pub rising_row : (value_in t s c ≡ row_least t s loads.from loads.to) × (value_in t s d ≡ row_greatest t s loads.from loads.to)
    rising_row =
        row_of_rising t ends.first.table s sound_s loads.from loads.to ends.loads.ordered loads.first loads.last (value_in t s c) (value_in t s d) ends.loads.first ends.loads.last
        (ap (value_in t s) ends.loads.start) (ap (value_in t s) ends.loads.end) start_to_end lines_between

  -- ---- and several slews in one cell
  module _ (slews : Stretch) (on_axis : IsStretch t.slews slews) (inside : IsTrue slews.inside) (start : k.slew.now ≡ slews.start) where
    abbrev pub s : Span
    s = span_in slews.start

    abbrev pub u : Span
    u = span_in slews.end

    s_alike : AreAlike (span_in k.slew.now) s
    s_alike = alike_to _ _ _ _ _ _ ends.first.table.slews start on_axis.start on_axis.start refl

    u_alike : AreAlike (span_in k.slew.now) u
    u_alike = alike_to _ _ _ _ _ _ ends.first.table.slews start on_axis.start on_axis.end (on_axis.one_cell inside)

    both : AreAlike s u
    both = one_cell _ _ _ _ _ ends.first.table.slews on_axis.start on_axis.end (on_axis.one_cell inside)

    higher : s.above ≤ℤ u.above
    higher = above_rises _ _ _ s u ends.first.table.slews on_axis.start on_axis.end (on_axis.one_cell inside) on_axis.ordered

    low_side : value_in t s c ≤ℤ value_in t u c
    low_side = by_slew t s (sound_s s s_alike) c sound_c u both higher (rows_rise k ends.first rising.first s c s_alike ends.start)

    high_side : value_in t s d ≤ℤ value_in t u d
    high_side = by_slew t s (sound_s s s_alike) d sound_d u both higher (rw ends.table at (rows_rise l ends.last rising.last s d (alike_moved _ _ _ ends.slew s_alike) ends.end))

    at_slew : (x : Span) (y : ℤ) → x ≡ span_of t.slews y → (s_x : AreAlike (span_in k.slew.now) x)
        → (value_in t x c ≡ row_least t (span_of t.slews y) loads.from loads.to) × (value_in t x d ≡ row_greatest t (span_of t.slews y) loads.from loads.to)
    at_slew x y e s_x =
        let h = rising_row x s_x in
        (h.0 ∙ ap (λ z. row_least t z loads.from loads.to) e, h.1 ∙ ap (λ z. row_greatest t z loads.from loads.to) e)

    pub rising_range : (a b : ℤ) → a ≡ value_in t s c → b ≡ value_in t u d → IsRange t (box_of slews loads) (a, b)
    rising_range a b a_is b_is =
        let x = at_slew s slews.from on_axis.start s_alike in let y = at_slew u slews.to on_axis.end u_alike in
        box_of_ends t ends.first.table _ _ _ _ on_axis.ordered ends.loads.ordered _ _ a (value_in t s d) (value_in t u c) b a b on_axis.first on_axis.last (on_axis.none_between inside)
        (a_is ∙ x.0) x.1 y.0 (b_is ∙ y.1)
        (least_of_two a (value_in t u c) (named _ _ _ _ a_is refl low_side)) (greatest_of_two (value_in t s d) b (named _ _ _ _ refl b_is high_side))
