-- Tables whose numbers are small for their cells.
use Rattle.std.proofs.Common.{◌≡◌, ℕ, ◌+◌, ◌-◌, ◌*◌, ◌<◌, ◌^◌, inl, inr, refl, sym, ◌∙◌, ap, subst, List, length, get_or, ℤ, pos, ◌-ℤ◌, ◌*ℤ◌, ◌≤ℤ◌, ◌<ℤ◌, arith, to_z, of_z, to_z-of_z, w64, SFits}
use Rattle.std.specs.Int.{int_max, w128}
use Rattle.std.proofs.Math.IntN.{*ℤ_comm, *ℤ-one}
use Rattle.std.proofs.lemmas.Bool.{cases_lt}
use Rattle.std.proofs.lemmas.Nat.{mul-add-lt}
use Rattle.std.proofs.lemmas.Int.{ints, clamps}
use Rattle.xt_model.specs.Tables.{IsIndex, IsTable, IsTableNumber, TableParts}
use Rattle.xt_meaning.specs.Lookup.{Span, cell_value, clamped, span_of, value_in}
use Rattle.table_box.specs.declared.place.Place.{Place}
use Rattle.table_box.specs.declared.segment.Segment.{Segment}
use Rattle.table_box.specs.declared.stretch.Stretch.{Stretch}
use Rattle.table_box.specs.Cells.{IsAtMost}
use Rattle.table_box.specs.Spans.{IsSpan, span_in}
use Rattle.table_box.specs.Stretches.{IsStretch}
use Rattle.table_box.specs.Ranges.{IsRange}
use Rattle.table_box.specs.Monotone.{AreAtMostApart, AreSmall, IsMonotone, IsPlaceOn, IsSegment, box_between}
use Rattle.table_box.proofs.Axis.{span_in_cell, span_of_sound, span_single}
use Rattle.table_box.proofs.Bilinear.{area_positive, mul_assoc}
use Rattle.table_box.proofs.Cells.{cell_of}
use Rattle.table_box.proofs.Products.{mul_mono}
use Rattle.table_box.proofs.Widths.{factors_back}
use Rattle.table_box.proofs.Places.{difference_back, number_word, placed_sound}
use Rattle.table_box.proofs.Ascending.{corners_are, rise_within, value_there}

-- ---- sizes
size_back : (x m : ℤ) → IsTableNumber x → m ≡ int_max (to_z w64 (of_z w64 x)) (to_z w64 (of_z w64 (pos 0 -ℤ to_z w64 (of_z w64 x)))) → m ≡ int_max x (pos 0 -ℤ x)
size_back x m n m_is =
    let a = n.low in let b = n.high in
    let opposite : SFits w64 (pos 0 -ℤ x) = omega (arith, ints, a, b) in
    m_is ∙ rw (to_z-of_z (number_word x n), to_z-of_z opposite) refl

-- a size that is the greater of another and that of a number, as the machine makes it
pub size_more : (x size m r : ℤ) → IsTableNumber x → IsTableNumber size → pos 1 ≤ℤ size
    → m ≡ int_max (to_z w64 (of_z w64 x)) (to_z w64 (of_z w64 (pos 0 -ℤ to_z w64 (of_z w64 x)))) → r ≡ int_max (to_z w64 (of_z w64 m)) size
    → record { here : IsAtMost (to_z w64 (of_z w64 r)) x; more : size ≤ℤ to_z w64 (of_z w64 r); least : pos 1 ≤ℤ to_z w64 (of_z w64 r); number : IsTableNumber (to_z w64 (of_z w64 r)) }
size_more x size m r n k least m_is r_is =
    let a = n.low in let b = n.high in let c = k.low in let d = k.high in
    let e = size_back x m n m_is in
    let m_fits : SFits w64 m = omega (arith, ints, clamps, e, a, b) in
    let f : r ≡ int_max m size = r_is ∙ ap (λ y. int_max y size) (to_z-of_z m_fits) in
    let r_fits : SFits w64 r = omega (arith, ints, clamps, e, f, a, b, c, d) in
    let back = to_z-of_z r_fits in
    record {
      here = record { low = omega (arith, ints, clamps, back, e, f); high = omega (arith, ints, clamps, back, e, f) };
      more = omega (arith, ints, clamps, back, f);
      least = omega (arith, ints, clamps, back, f, least);
      number = record { low = omega (arith, ints, clamps, back, e, f, a, b, c, d); high = omega (arith, ints, clamps, back, e, f, a, b, c, d) };
    }

pub sizes_more : (xs : List ℤ) (n : ℕ) (size r : ℤ) → ((j : ℕ) → j < n → IsAtMost size (get_or xs j (pos 0))) → size ≤ℤ r → IsAtMost r (get_or xs n (pos 0))
    → (j : ℕ) → j < n + 1 → IsAtMost r (get_or xs j (pos 0))
sizes_more xs n size r before up here j h = elim (cases_lt j n) [
  | inl p ↦ let b = before j p in record { low = omega (arith, ints, b.low, up); high = omega (arith, ints, b.high, up) }
  | inr p ↦ let e : n ≡ j = omega arith in subst (λ (i : ℕ). IsAtMost r (get_or xs i (pos 0))) e here
]

-- a product of a size and two widths, as the machine makes it
pub room_is : (m w h p q : ℤ) → IsTableNumber m → pos 1 ≤ℤ w → w ≤ℤ pos (2 ^ 41) → pos 1 ≤ℤ h → h ≤ℤ pos (2 ^ 41) → SFits w128 p → SFits w128 q
    → p ≡ to_z w64 (of_z w64 m) *ℤ to_z w64 (of_z w64 w) → q ≡ to_z w128 (of_z w128 p) *ℤ to_z w64 (of_z w64 h) → to_z w128 (of_z w128 q) ≤ℤ pos (2 ^ 62)
    → ((m *ℤ w) *ℤ h) ≤ℤ pos (2 ^ 62)
room_is m w h p q number w_low w_high h_low h_high p_fits q_fits p_is q_is room =
    let w_fits : SFits w64 w = omega (arith, ints) in let h_fits : SFits w64 h = omega (arith, ints) in
    let first : p ≡ m *ℤ w = p_is ∙ factors_back m w (number_word m number) w_fits in
    let second : q ≡ (m *ℤ w) *ℤ h = q_is ∙ (ap (λ n. n *ℤ to_z w64 (of_z w64 h)) (to_z-of_z p_fits ∙ first) ∙ ap (λ n. (m *ℤ w) *ℤ n) (to_z-of_z h_fits)) in
    subst (λ (n : ℤ). n ≤ℤ pos (2 ^ 62)) (to_z-of_z q_fits ∙ second) room

-- ---- widths
pub width_most : (xs : List ℤ) (most x : ℤ) → IsIndex xs → AreAtMostApart xs most → pos 1 ≤ℤ most → (span_of xs x).width ≤ℤ most
width_most xs most x ok apart least = elim (cases_lt 1 (length xs)) [
  | inl p ↦
      let found = cell_of xs (clamped xs x) p in
      subst (λ (s : Span). s.width ≤ℤ most) (sym (span_in_cell xs ok x found.0 found.1)) (apart.each found.0 found.1.there)
  | inr p ↦ let some = ok.some in subst (λ (s : Span). s.width ≤ℤ most) (sym (span_single xs ok x (omega arith))) least
]

-- a width that is the greater of another and a distance, as the machine makes it
pub width_more : (a b width r : ℤ) → IsTableNumber a → IsTableNumber b → pos 1 ≤ℤ width → width ≤ℤ pos (2 ^ 41)
    → r ≡ int_max (to_z w64 (of_z w64 (to_z w64 (of_z w64 b) -ℤ to_z w64 (of_z w64 a)))) width
    → record { here : (b -ℤ a) ≤ℤ to_z w64 (of_z w64 r); more : width ≤ℤ to_z w64 (of_z w64 r); least : pos 1 ≤ℤ to_z w64 (of_z w64 r); most : to_z w64 (of_z w64 r) ≤ℤ pos (2 ^ 41) }
width_more a b width r n k least most r_is =
    let p = n.low in let q = n.high in let s = k.low in let t = k.high in
    let f : r ≡ int_max (b -ℤ a) width = r_is ∙ ap (λ y. int_max y width) (difference_back b a k n) in
    let r_fits : SFits w64 r = omega (arith, ints, clamps, f, p, q, s, t, least, most) in
    let back = to_z-of_z r_fits in
    record {
      here = omega (arith, ints, clamps, back, f);
      more = omega (arith, ints, clamps, back, f);
      least = omega (arith, ints, clamps, back, f, least);
      most = omega (arith, ints, clamps, back, f, p, q, s, t, most);
    }

-- one distance more
pub apart_more : (xs : List ℤ) (n : ℕ) (m w : ℤ) → ((i : ℕ) → i + 1 < n → (get_or xs (i + 1) (pos 0) -ℤ get_or xs i (pos 0)) ≤ℤ m) → m ≤ℤ w
    → 0 < n → (get_or xs n (pos 0) -ℤ get_or xs (n - 1) (pos 0)) ≤ℤ w → (i : ℕ) → i + 1 < n + 1 → (get_or xs (i + 1) (pos 0) -ℤ get_or xs i (pos 0)) ≤ℤ w
apart_more xs n m w before up some here i h = elim (cases_lt (i + 1) n) [
  | inl p ↦ let b = before i p in omega (arith, ints, b, up)
  | inr p ↦
      let e : n - 1 ≡ i = omega arith in let f : n ≡ i + 1 = omega arith in
      let P : ℕ → Type 0 = λ k. (get_or xs n (pos 0) -ℤ get_or xs k (pos 0)) ≤ℤ w in
      let Q : ℕ → Type 0 = λ k. (get_or xs k (pos 0) -ℤ get_or xs i (pos 0)) ≤ℤ w in
      subst Q f (subst P e here)
]

-- ---- products
product_up : (m a b : ℤ) → pos 0 ≤ℤ m → a ≤ℤ b → (m *ℤ a) ≤ℤ (m *ℤ b)
product_up m a b h k =
    let u = mul_mono a b m k h in let p = *ℤ_comm m a in let q = *ℤ_comm m b in
    omega (arith, ints, u, p, q)

-- with smaller widths a product of a size and two widths is smaller
pub area_up : (m w h a b : ℤ) → pos 0 ≤ℤ m → pos 0 ≤ℤ w → pos 0 ≤ℤ h → w ≤ℤ a → h ≤ℤ b → (m *ℤ (w *ℤ h)) ≤ℤ ((m *ℤ a) *ℤ b)
area_up m w h a b m_low w_low h_low up_w up_h =
    let e : m *ℤ (w *ℤ h) ≡ (m *ℤ w) *ℤ h = ap (λ n. m *ℤ n) (*ℤ_comm w h) ∙ sym (mul_assoc m w h) in
    let first = mul_mono (m *ℤ w) (m *ℤ a) h (product_up m w a m_low up_w) h_low in
    let zero_up = mul_mono (pos 0) a m (omega (arith, ints)) m_low in
    let c = *ℤ_comm m a in
    let low : pos 0 ≤ℤ (m *ℤ a) = omega (arith, ints, zero_up, c) in
    let second = product_up (m *ℤ a) h b low up_h in
    omega (arith, ints, e, first, second)

pub small_room : (t : TableParts) (m w h : ℤ) → IsTable t → pos 1 ≤ℤ m → AreAtMostApart t.slews w → pos 1 ≤ℤ w → AreAtMostApart t.loads h → pos 1 ≤ℤ h
    → ((m *ℤ w) *ℤ h) ≤ℤ pos (2 ^ 62) → (s c : ℤ) → (m *ℤ ((span_of t.slews s).width *ℤ (span_of t.loads c).width)) ≤ℤ pos (2 ^ 62)
small_room t m w h ok m_low slews w_low loads h_low room s c =
    let p = (span_of_sound t.slews ok.slews s).positive in let q = (span_of_sound t.loads ok.loads c).positive in
    let up = area_up m (span_of t.slews s).width (span_of t.loads c).width w h (omega (arith, ints)) (omega (arith, ints, p)) (omega (arith, ints, q))
    (width_most t.slews w s ok.slews slews w_low) (width_most t.loads h c ok.loads loads h_low) in
    omega (arith, ints, up, room)

-- ---- a cell of a table whose numbers are small
module _ (t : TableParts) (ok : IsTable t) (small : AreSmall t) (slew load : Place) (slew_on : IsPlaceOn t.slews slew) (load_on : IsPlaceOn t.loads load) where
  pub slew_sound : IsSpan (length t.slews) (span_in slew)
  slew_sound = placed_sound t.slews slew_on.number (span_in slew) ok.slews slew_on.place

  pub load_sound : IsSpan (length t.loads) (span_in load)
  load_sound = placed_sound t.loads load_on.number (span_in load) ok.loads load_on.place

  pub room_there : (small.most *ℤ (slew.width *ℤ load.width)) ≤ℤ pos (2 ^ 62)
  room_there =
      let e = ap (λ s. s.width) slew_on.place in let f = ap (λ s. s.width) load_on.place in
      let P : ℤ → ℤ → Type 0 = λ w h. (small.most *ℤ (w *ℤ h)) ≤ℤ pos (2 ^ 62) in
      subst (λ (w : ℤ). P w load.width) (sym e) (subst (λ (h : ℤ). P (span_of t.slews slew_on.number).width h) (sym f) (small.room slew_on.number load_on.number))

  pub area_low : pos 0 <ℤ (slew.width *ℤ load.width)
  area_low = area_positive slew.width load.width slew_sound.positive load_sound.positive

  pub area_high : (slew.width *ℤ load.width) ≤ℤ pos (2 ^ 62)
  area_high =
      let low = area_low in let room = room_there in
      let up = mul_mono (pos 1) small.most (slew.width *ℤ load.width) small.least (omega (arith, ints, low)) in
      let one = *ℤ-one (slew.width *ℤ load.width) in
      omega (arith, ints, up, room, one)

  pub slew_fits : SFits w64 slew.width
  slew_fits = let p = slew_sound.positive in let q = slew_sound.most in omega (arith, ints, p, q)

  pub load_fits : SFits w64 load.width
  load_fits = let p = load_sound.positive in let q = load_sound.most in omega (arith, ints, p, q)

  -- the area, as the machine makes it
  pub area_is : to_z w64 (of_z w64 slew.width) *ℤ to_z w64 (of_z w64 load.width) ≡ slew.width *ℤ load.width
  area_is = factors_back slew.width load.width slew_fits load_fits

  area_within : SFits w64 (slew.width *ℤ load.width)
  area_within = let low = area_low in let high = area_high in omega (arith, ints, low, high)

  pub area_fits : SFits w64 (to_z w64 (of_z w64 slew.width) *ℤ to_z w64 (of_z w64 load.width))
  area_fits = subst (SFits w64) (sym area_is) area_within

  pub area_back : to_z w64 (of_z w64 (to_z w64 (of_z w64 slew.width) *ℤ to_z w64 (of_z w64 load.width))) ≡ slew.width *ℤ load.width
  area_back = to_z-of_z area_fits ∙ area_is

  pub number_small : (row column : ℕ) → row < length t.slews → column < length t.loads → IsAtMost small.most (cell_value t row column)
  number_small row column h k =
      let count = ok.count in let inside = mul-add-lt row (length t.loads) column (length t.slews) h k in
      small.numbers (row * length t.loads + column) (pos 0) (omega arith)

  pub number_there : (row column : ℕ) (x : ℤ) → row < length t.slews → column < length t.loads → x ≡ cell_value t row column → IsTableNumber x
      → (to_z w64 (of_z w64 x) ≡ cell_value t row column) × IsAtMost small.most (to_z w64 (of_z w64 x))
  number_there row column x h k e n =
      let back = to_z-of_z (number_word x n) ∙ e in
      (back, subst (IsAtMost small.most) (sym back) (number_small row column h k))

-- ---- the corners of a monotone table
pub monotone_corners : (t : TableParts) → IsTable t → IsMonotone t → (slews : Segment) (loads : Stretch) → IsSegment t.slews slews → IsStretch t.loads loads
    → (x y : ℤ) → x ≡ value_in t (span_in slews.start) (span_in loads.start) → y ≡ value_in t (span_in slews.end) (span_in loads.end)
    → IsRange t (box_between slews loads) (x, y)
monotone_corners t ok monotone slews loads on_slews on_loads x y x_is y_is =
    let row = (span_of_sound t.slews ok.slews slews.to).second in
    let column = (span_of_sound t.loads ok.loads loads.to).second in
    corners_are t ok (box_between slews loads) (record { slews = on_slews.ordered; loads = on_loads.ordered })
    (rise_within t _ _ _ _ _ _ _ _ (omega arith) (omega (arith, row)) (omega arith) (omega (arith, column)) monotone.rising) x y
    (x_is ∙ value_there t _ _ _ _ on_slews.start on_loads.start)
    (y_is ∙ value_there t _ _ _ _ on_slews.end on_loads.end)
