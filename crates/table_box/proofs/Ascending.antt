-- Where the numbers of a part of a table rise along both axes, so do its values, and the least and the greatest are at
-- its corners.
use Rattle.std.proofs.Common.{◌≡◌, ℕ, zero, suc, ◌+◌, ◌-◌, ◌<◌, ◌≤◌, inl, inr, refl, sym, ◌∙◌, ap, subst, List, length, ℤ, ◌≤ℤ◌, arith}
use Rattle.std.specs.Int.{int_div_euclid}
use Rattle.std.proofs.lemmas.Bool.{cases_lt}
use Rattle.std.proofs.lemmas.Int.{ints}
use Rattle.xt_model.specs.Tables.{IsIndex, IsTable, IsTableNumber, TableParts}
use Rattle.xt_meaning.specs.Lookup.{Box, Span, clamped, greatest_over, least_over, span_of, table_value, value_in}
use Rattle.xt_meaning.proofs.Ranges.{IsBox, IsInBox, greatest_over_above, greatest_over_least, least_over_below, least_over_most}
use Rattle.table_box.specs.declared.stretch.Stretch.{Stretch}
use Rattle.table_box.specs.Spans.{AreAlike, IsSpan, span_in}
use Rattle.table_box.specs.Stretches.{IsStretch, box_of}
use Rattle.table_box.specs.Mixes.{along_slews}
use Rattle.table_box.specs.Ranges.{IsRange}
use Rattle.table_box.specs.Rises.{DoAllRise}
use Rattle.table_box.proofs.Axis.{ends_mono, same_number, span_in_cell, span_of_sound, span_several, span_single}
use Rattle.table_box.proofs.Bilinear.{along_loads, fraction_mono}
use Rattle.table_box.proofs.Cells.{IsCell, cell_of, rises}
use Rattle.table_box.proofs.Rising.{above_rises, by_load, by_slew, chained, from_line, from_row, mixed_more, up_to_line, up_to_row}
use Rattle.table_box.proofs.Small.{one_cell}
use Rattle.table_box.proofs.Sweeps.{greatest_number, least_number}

-- ---- along an axis
-- the second line of a span is the first, or the one after it
pub record IsNext (p : Span) : Type 0 where
  pub least : p.first ≤ p.second
  pub most : p.second ≤ p.first + 1

-- values V of spans and values L of lines that rise from line i0 to line i1 of n
record RisesAlong (n : ℕ) (V : Span → ℤ) (L : ℕ → ℤ) (i0 i1 : ℕ) : Type 0 where
  within : (p q : Span) → IsSpan n p → AreAlike p q → p.above ≤ℤ q.above → i0 ≤ p.first → p.second ≤ i1 → IsNext p → V p ≤ℤ V q
  up : (p : Span) → IsSpan n p → i0 ≤ p.first → p.second ≤ i1 → IsNext p → V p ≤ℤ L p.second
  from : (p : Span) → IsSpan n p → i0 ≤ p.first → p.second ≤ i1 → IsNext p → L p.first ≤ℤ V p
  lines : (j : ℕ) → i0 ≤ j → j < i1 → L j ≤ℤ L (j + 1)

-- what rises from each line to the next rises from each to each later one
lines_up : (L : ℕ → ℤ) (i0 i1 : ℕ) → ((j : ℕ) → i0 ≤ j → j < i1 → L j ≤ℤ L (j + 1)) → (i k : ℕ) → i0 ≤ i → i + k ≤ i1 → L i ≤ℤ L (i + k)
lines_up L i0 i1 step i zero h g = let e : i ≡ i + zero = omega arith in let P : ℕ → Type 0 = λ n. L i ≤ℤ L n in subst P e (omega (arith, ints))
lines_up L i0 i1 step i (suc k) h g =
    let a = lines_up L i0 i1 step i k h (omega arith) in
    let b = step (i + k) (omega arith) (omega arith) in
    let e : (i + k) + 1 ≡ i + suc k = omega arith in
    let P : ℕ → Type 0 = λ n. L i ≤ℤ L n in subst P e (chained _ _ _ a b)

lines_from : (L : ℕ → ℤ) (i0 i1 : ℕ) → ((j : ℕ) → i0 ≤ j → j < i1 → L j ≤ℤ L (j + 1)) → (i j : ℕ) → i0 ≤ i → i ≤ j → j ≤ i1 → L i ≤ℤ L j
lines_from L i0 i1 step i j h k g =
    let e : i + (j - i) ≡ j = omega arith in
    let P : ℕ → Type 0 = λ n. L i ≤ℤ L n in subst P e (lines_up L i0 i1 step i (j - i) h (omega arith))

module _ (xs : List ℤ) (ok : IsIndex xs) where
  pub is_next : (x : ℤ) → IsNext (span_of xs x)
  is_next x = elim (cases_lt 1 (length xs)) [
    | inl p ↦ subst IsNext (sym (span_several xs ok x p)) (record { least = omega arith; most = omega arith })
    | inr p ↦ let some = ok.some in subst IsNext (sym (span_single xs ok x (omega arith))) (record { least = omega arith; most = omega arith })
  ]

  -- the greater of two numbers lies in no earlier cell
  cells_rise : (a b : ℤ) (i j : ℕ) → a ≤ℤ b → IsCell xs a i → IsCell xs b j → i ≤ j
  cells_rise a b i j h c d = elim (cases_lt j i) [
    | inl p ↦
        let there = c.there in
        let up = d.high (omega arith) in
        let low = c.low (omega arith) in
        let r = rises xs ok (j + 1) i (omega arith) (omega arith) in
        absurd (let bad : ⊥ = omega (arith, ints, h, up, low, r) in bad)
    | inr p ↦ p
  ]

  -- its lines are no earlier ones
  lines_rise : (x y : ℤ) → x ≤ℤ y → ((span_of xs x).first ≤ (span_of xs y).first) × ((span_of xs x).second ≤ (span_of xs y).second)
  lines_rise x y h = elim (cases_lt 1 (length xs)) [
    | inl p ↦
        let f = cell_of xs (clamped xs x) p in let g = cell_of xs (clamped xs y) p in
        let a = span_in_cell xs ok x f.0 f.1 in let b = span_in_cell xs ok y g.0 g.1 in
        let c = cells_rise _ _ _ _ (ends_mono _ _ x y h) f.1 g.1 in
        let d = ap (λ s. s.first) a in let e = ap (λ s. s.first) b in
        let k = ap (λ s. s.second) a in let l = ap (λ s. s.second) b in
        (omega (arith, c, d, e), omega (arith, c, k, l))
    | inr p ↦
        let some = ok.some in let e : length xs ≡ 1 = omega arith in
        let a = span_single xs ok x e in let b = span_single xs ok y e in
        let d = ap (λ s. s.first) a in let f = ap (λ s. s.first) b in
        let k = ap (λ s. s.second) a in let l = ap (λ s. s.second) b in
        (omega (arith, d, f), omega (arith, k, l))
  ]

  module _ (V : Span → ℤ) (L : ℕ → ℤ) (i0 i1 : ℕ) (r : RisesAlong (length xs) V L i0 i1) where
    rises_along : (x y : ℤ) → x ≤ℤ y → i0 ≤ (span_of xs x).first → (span_of xs y).second ≤ i1 → V (span_of xs x) ≤ℤ V (span_of xs y)
    rises_along x y h low high =
        let order = lines_rise x y h in
        let n = is_next x in let m = is_next y in
        let least = n.least in let most = n.most in let last = m.least in
        elim (cases_lt (span_of xs x).first (span_of xs y).first) [
          | inl u ↦
              let a = r.up (span_of xs x) (span_of_sound xs ok x) low (omega (arith, order.1, high)) n in
              let b = lines_from L i0 i1 r.lines (span_of xs x).second (span_of xs y).first (omega (arith, low, least)) (omega (arith, u, most)) (omega (arith, last, high)) in
              let c = r.from (span_of xs y) (span_of_sound xs ok y) (omega (arith, low, order.0)) high m in
              chained _ _ _ a (chained _ _ _ b c)
          | inr u ↦
              let same : (span_of xs x).first ≡ (span_of xs y).first = omega (arith, u, order.0) in
              r.within (span_of xs x) (span_of xs y) (span_of_sound xs ok x) (one_cell xs x y _ _ ok refl refl same)
              (above_rises xs x y _ _ ok refl refl same h) low (omega (arith, order.1, high)) n
        ]

-- ---- a part of a table in which the numbers rise
module _ (t : TableParts) (ok : IsTable t) (r0 r1 c0 c1 : ℕ) (rise : DoAllRise t r0 r1 c0 c1) where
  -- at a slew, from each column to the next
  module _ (s : Span) (sound : IsSpan (length t.slews) s) (low : r0 ≤ s.first) (high : s.second ≤ r1) (next : IsNext s) where
    column_up : (j : ℕ) → c0 ≤ j → j < c1 → along_slews t j s ≤ℤ along_slews t (j + 1) s
    column_up j h k =
        let least = next.least in
        mixed_more _ _ _ _ s.below s.above ((rise.rows s.first low (omega arith)).each j h k) ((rise.rows s.second (omega arith) high).each j h k) sound.below sound.above

    column_next : (c : Span) → c0 ≤ c.first → c.second ≤ c1 → IsNext c → along_slews t c.first s ≤ℤ along_slews t c.second s
    column_next c h k n =
        let least = n.least in let most = n.most in
        elim (cases_lt c.first c.second) [
          | inl u ↦
              let e : c.first + 1 ≡ c.second = omega arith in
              let P : ℕ → Type 0 = λ j. along_slews t c.first s ≤ℤ along_slews t j s in
              subst P e (column_up c.first h (omega arith))
          | inr u ↦
              let e : c.first ≡ c.second = omega arith in
              let P : ℕ → Type 0 = λ j. along_slews t c.first s ≤ℤ along_slews t j s in
              subst P e (omega (arith, ints))
        ]

    with_load : RisesAlong (length t.loads) (value_in t s) (λ j. int_div_euclid (along_slews t j s) s.width) c0 c1
    with_load = record {
      within = λ p q sound_p alike up h k n. by_load t s sound p sound_p q alike up (column_next p h k n);
      up = λ p sound_p h k n. up_to_line t s sound p sound_p (column_next p h k n);
      from = λ p sound_p h k n. from_line t s sound p sound_p (column_next p h k n);
      lines = λ j h k. fraction_mono _ _ s.width sound.positive (column_up j h k);
    }

  -- at a load, from each row to the next
  module _ (c : Span) (sound : IsSpan (length t.loads) c) (low : c0 ≤ c.first) (high : c.second ≤ c1) (next : IsNext c) where
    row_up : (i : ℕ) → r0 ≤ i → i < r1 → along_loads t i c ≤ℤ along_loads t (i + 1) c
    row_up i h k =
        let least = next.least in
        mixed_more _ _ _ _ c.below c.above ((rise.columns i h k).each c.first low (omega arith)) ((rise.columns i h k).each c.second (omega arith) high) sound.below sound.above

    row_next : (s : Span) → r0 ≤ s.first → s.second ≤ r1 → IsNext s → along_loads t s.first c ≤ℤ along_loads t s.second c
    row_next s h k n =
        let least = n.least in let most = n.most in
        elim (cases_lt s.first s.second) [
          | inl u ↦
              let e : s.first + 1 ≡ s.second = omega arith in
              let P : ℕ → Type 0 = λ i. along_loads t s.first c ≤ℤ along_loads t i c in
              subst P e (row_up s.first h (omega arith))
          | inr u ↦
              let e : s.first ≡ s.second = omega arith in
              let P : ℕ → Type 0 = λ i. along_loads t s.first c ≤ℤ along_loads t i c in
              subst P e (omega (arith, ints))
        ]

    with_slew : RisesAlong (length t.slews) (λ s. value_in t s c) (λ i. int_div_euclid (along_loads t i c) c.width) r0 r1
    with_slew = record {
      within = λ p q sound_p alike up h k n. by_slew t p sound_p c sound q alike up (row_next p h k n);
      up = λ p sound_p h k n. up_to_row t p sound_p c sound (row_next p h k n);
      from = λ p sound_p h k n. from_row t p sound_p c sound (row_next p h k n);
      lines = λ i h k. fraction_mono _ _ c.width sound.positive (row_up i h k);
    }

  -- from a slew and a load to greater ones
  values_rise : (s r c d : ℤ) → s ≤ℤ r → c ≤ℤ d → r0 ≤ (span_of t.slews s).first → (span_of t.slews r).second ≤ r1
      → c0 ≤ (span_of t.loads c).first → (span_of t.loads d).second ≤ c1
      → value_in t (span_of t.slews s) (span_of t.loads c) ≤ℤ value_in t (span_of t.slews r) (span_of t.loads d)
  values_rise s r c d h k s_low r_high c_low d_high =
      let rows = lines_rise t.slews ok.slews s r h in let columns = lines_rise t.loads ok.loads c d k in
      let a = rises_along t.slews ok.slews _ _ r0 r1
      (with_slew (span_of t.loads c) (span_of_sound t.loads ok.loads c) c_low (omega (arith, columns.1, d_high)) (is_next t.loads ok.loads c))
      s r h s_low r_high in
      let b = rises_along t.loads ok.loads _ _ c0 c1
      (with_load (span_of t.slews r) (span_of_sound t.slews ok.slews r) (omega (arith, rows.0, s_low)) r_high (is_next t.slews ok.slews r))
      c d k c_low d_high in
      chained _ _ _ a b

-- ---- a smaller part
pub rise_within : (t : TableParts) (r0 r1 c0 c1 r2 r3 c2 c3 : ℕ) → r0 ≤ r2 → r3 ≤ r1 → c0 ≤ c2 → c3 ≤ c1 → DoAllRise t r0 r1 c0 c1 → DoAllRise t r2 r3 c2 c3
rise_within t r0 r1 c0 c1 r2 r3 c2 c3 a b p q rise = record {
  rows = λ i h k. record { each = λ j u v. (rise.rows i (omega arith) (omega arith)).each j (omega arith) (omega arith) };
  columns = λ i h k. record { each = λ j u v. (rise.columns i (omega arith) (omega arith)).each j (omega arith) (omega arith) };
}

-- ---- the corners of a box
module _ (t : TableParts) (ok : IsTable t) (b : Box) (box : IsBox b)
    (rise : DoAllRise t (span_of t.slews b.s0).first (span_of t.slews b.s1).second (span_of t.loads b.c0).first (span_of t.loads b.c1).second) where
  abbrev least : ℤ
  least = value_in t (span_of t.slews b.s0) (span_of t.loads b.c0)

  abbrev greatest : ℤ
  greatest = value_in t (span_of t.slews b.s1) (span_of t.loads b.c1)

  least_below : (s c : ℤ) → IsInBox b s c → least ≤ℤ table_value t s c
  unfolding table_value
  least_below s c i =
      let rows = lines_rise t.slews ok.slews s b.s1 i.s_high in let columns = lines_rise t.loads ok.loads c b.c1 i.c_high in
      values_rise t ok _ _ _ _ rise b.s0 s b.c0 c i.s_low i.c_low (omega arith) rows.1 (omega arith) columns.1

  greatest_above : (s c : ℤ) → IsInBox b s c → table_value t s c ≤ℤ greatest
  unfolding table_value
  greatest_above s c i =
      let rows = lines_rise t.slews ok.slews b.s0 s i.s_low in let columns = lines_rise t.loads ok.loads b.c0 c i.c_low in
      values_rise t ok _ _ _ _ rise s b.s1 c b.c1 i.s_high i.c_high rows.0 (omega arith) columns.0 (omega arith)

  least_is : least ≡ least_over (table_value t) b
  unfolding table_value
  least_is = same_number _ _ (least_over_most (table_value t) b least box least_below)
      (least_over_below (table_value t) b b.s0 b.c0
      (record { s_low = omega (arith, ints); s_high = box.slews; c_low = omega (arith, ints); c_high = box.loads }))

  greatest_is : greatest ≡ greatest_over (table_value t) b
  unfolding table_value
  greatest_is = same_number _ _
      (greatest_over_above (table_value t) b b.s1 b.c1
      (record { s_low = box.slews; s_high = omega (arith, ints); c_low = box.loads; c_high = omega (arith, ints) }))
      (greatest_over_least (table_value t) b greatest box greatest_above)

  pub corners_are : (x y : ℤ) → x ≡ least → y ≡ greatest → IsRange t b (x, y)
  corners_are x y x_is y_is = record {
    least = x_is ∙ least_is;
    greatest = y_is ∙ greatest_is;
    least_number = subst IsTableNumber (sym (x_is ∙ least_is)) (least_number t ok b box);
    greatest_number = subst IsTableNumber (sym (y_is ∙ greatest_is)) (greatest_number t ok b box);
  }

-- the values at two places are those of two corners
pub value_there : (t : TableParts) (s c p q : Span) → p ≡ s → q ≡ c → value_in t p q ≡ value_in t s c
value_there t s c p q e f = ap (λ x. value_in t x q) e ∙ ap (value_in t s) f

module _ (t : TableParts) (ok : IsTable t) (slews loads : Stretch) (on_slews : IsStretch t.slews slews) (on_loads : IsStretch t.loads loads)
    (rise : DoAllRise t slews.start.first slews.end.second loads.start.first loads.end.second) where
  box_is : IsBox (box_of slews loads)
  box_is = record { slews = on_slews.ordered; loads = on_loads.ordered }

  rise_there : DoAllRise t (span_of t.slews slews.from).first (span_of t.slews slews.to).second (span_of t.loads loads.from).first (span_of t.loads loads.to).second
  rise_there =
      let a = ap (λ s. s.first) on_slews.start in let b = ap (λ s. s.second) on_slews.end in
      let c = ap (λ s. s.first) on_loads.start in let d = ap (λ s. s.second) on_loads.end in
      rise_within t _ _ _ _ _ _ _ _ (omega (arith, a)) (omega (arith, b)) (omega (arith, c)) (omega (arith, d)) rise

  pub corners_hold : (a b : ℤ) → a ≡ value_in t (span_in slews.start) (span_in loads.start) → b ≡ value_in t (span_in slews.end) (span_in loads.end) → IsRange t (box_of slews loads) (a, b)
  corners_hold a b a_is b_is =
      corners_are t ok (box_of slews loads) box_is rise_there a b
      (a_is ∙ value_there t _ _ _ _ on_slews.start on_loads.start)
      (b_is ∙ value_there t _ _ _ _ on_slews.end on_loads.end)
