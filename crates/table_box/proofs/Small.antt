-- Sums within a cell whose numbers are small for its area.
use Rattle.std.proofs.Common.{◌≡◌, ℕ, ◌<◌, ◌^◌, length, ◌+◌, List, get_or, inl, inr, refl, sym, ◌∙◌, ap, subst, ℤ, pos, neg_ℤ, ◌+ℤ◌, ◌*ℤ◌, ◌-ℤ◌, ◌≤ℤ◌, ◌<ℤ◌, arith, to_z, of_z, to_z-of_z, w64, SFits}
use Rattle.std.proofs.lemmas.Int.{ints}
use Rattle.std.proofs.Math.IntN.{*ℤ_comm, *ℤ-one, zero-*ℤ}
use Rattle.std.specs.Int.{int_div_euclid}
use Rattle.xt_model.specs.Tables.{IsIndex, TableParts, IsTable, IsTableNumber}
use Rattle.xt_meaning.specs.Lookup.{Span, cell_value, span_at, span_of, value_in}
use Rattle.table_box.specs.declared.cell.Cell.{Cell}
use Rattle.table_box.specs.Spans.{IsSpan, AreAlike, span_in}
use Rattle.table_box.specs.Mixes.{mixed, along_slews}
use Rattle.table_box.specs.Cells.{AreAtMost, AreMixable, DoRise, IsAtMost, IsSmallCell}
use Rattle.table_box.proofs.Products.{mixed_least, mixed_most, mul_add_left, mul_add_right, mul_mono}
use Rattle.table_box.proofs.Bilinear.{mul_assoc, cell_number, value_number, value_by_load, area_positive}
use Rattle.table_box.proofs.Widths.{factors_back, sum_same}
use Rattle.table_box.proofs.Axis.{span_several, span_single}
use Rattle.table_box.proofs.Places.{placed_sound}
use Rattle.std.proofs.lemmas.Bool.{cases_lt}

neg_mul : (m w : ℤ) → neg_ℤ m *ℤ w ≡ neg_ℤ (m *ℤ w)
neg_mul m w =
    let a = mul_add_right (neg_ℤ m) m w in
    let e : neg_ℤ m +ℤ m ≡ pos 0 = omega (arith, ints) in
    let f = ap (λ n. n *ℤ w) e in
    let g = zero-*ℤ w in
    omega (arith, ints, a, f, g)

-- a number of at most m in size, times a part of a width
part_small : (m p b a w : ℤ) → IsAtMost m p → pos 0 ≤ℤ b → pos 0 ≤ℤ a → b +ℤ a ≡ w → IsAtMost (m *ℤ w) (p *ℤ b)
part_small m p b a w s hb ha whole =
    let high = mul_mono p m b s.high hb in
    let low = mul_mono (neg_ℤ m) p b s.low hb in
    let n = neg_mul m b in
    let rest = mul_mono (pos 0) m a (omega (arith, ints, s.low, s.high)) ha in
    let z = zero-*ℤ a in
    let sum = mul_add_left b a m in
    let e : m *ℤ (b +ℤ a) ≡ m *ℤ w = ap (λ x. m *ℤ x) whole in
    record { low = omega (arith, ints, low, n, rest, z, sum, e); high = omega (arith, ints, high, rest, z, sum, e) }

fits : (m x : ℤ) → IsAtMost m x → m ≤ℤ pos (2 ^ 62) → SFits w64 x
fits m x s h = let low = s.low in let high = s.high in omega (arith, ints, low, high, h)

module _ (p q m : ℤ) (s : Span) (ok : AreMixable p q m s) where
  pub first_part : SFits w64 (p *ℤ s.below)
  first_part = fits _ _ (part_small m p s.below s.above s.width ok.first ok.below ok.above ok.whole) ok.room

  pub second_part : SFits w64 (q *ℤ s.above)
  second_part =
      let whole : s.above +ℤ s.below ≡ s.width = let e = ok.whole in omega (arith, ints, e) in
      fits _ _ (part_small m q s.above s.below s.width ok.second ok.above ok.below whole) ok.room

  pub mixed_small : IsAtMost (m *ℤ s.width) (mixed p q s.below s.above)
  mixed_small =
      let whole = sym ok.whole in
      let low = mixed_least (neg_ℤ m) p q s.below s.above s.width ok.first.low ok.second.low ok.below ok.above whole in
      let high = mixed_most m p q s.below s.above s.width ok.first.high ok.second.high ok.below ok.above whole in
      let n = neg_mul m s.width in
      record { low = omega (arith, ints, low, n); high = high }

  pub mixed_fits : SFits w64 (mixed p q s.below s.above)
  mixed_fits = fits _ _ mixed_small ok.room

-- where numbers rise, the least and the greatest stand at two corners
pub rising_at_most : (most a b c d : ℤ) → DoRise a b c d → neg_ℤ most ≤ℤ a → d ≤ℤ most → AreAtMost most a b c d
rising_at_most most a b c d r low high =
    let p = r.first_row in let q = r.second_row in let u = r.first_column in let v = r.second_column in
    record {
      first = record { low = low; high = omega (arith, ints, p, v, high) };
      second = record { low = omega (arith, ints, p, low); high = omega (arith, ints, v, high) };
      third = record { low = omega (arith, ints, u, low); high = omega (arith, ints, q, high) };
      fourth = record { low = omega (arith, ints, p, v, low); high = high };
    }

-- the room of a mix of mixes is that of the area
pub area_room : (m a w h : ℤ) → a ≡ w *ℤ h → (m *ℤ a) ≤ℤ pos (2 ^ 62) → ((m *ℤ w) *ℤ h) ≤ℤ pos (2 ^ 62)
area_room m a w h e r =
    let x = mul_assoc m w h in
    let y : m *ℤ (h *ℤ w) ≡ m *ℤ a = ap (λ n. m *ℤ n) (*ℤ_comm h w ∙ sym e) in
    omega (arith, ints, x, y, r)

-- where the area has room, so has one width
pub width_room : (m a w h : ℤ) → pos 0 ≤ℤ m → pos 1 ≤ℤ h → pos 0 ≤ℤ w → a ≡ w *ℤ h → (m *ℤ a) ≤ℤ pos (2 ^ 62) → (m *ℤ w) ≤ℤ pos (2 ^ 62)
width_room m a w h natural tall wide e r =
    let whole = area_room m a w h e r in
    let n = mul_mono (pos 0) m w natural wide in
    let z = zero-*ℤ w in
    let rest = mul_mono (pos 0) (h -ℤ pos 1) (m *ℤ w) (omega (arith, ints, tall)) (omega (arith, ints, n, z)) in
    let one = mul_add_left (pos 1) (h -ℤ pos 1) (m *ℤ w) in
    let i : pos 1 +ℤ (h -ℤ pos 1) ≡ h = omega (arith, ints) in
    let j : (m *ℤ w) *ℤ (pos 1 +ℤ (h -ℤ pos 1)) ≡ (m *ℤ w) *ℤ h = ap (λ n. (m *ℤ w) *ℤ n) i in
    let k = *ℤ_comm (m *ℤ w) (h -ℤ pos 1) in
    let l = *ℤ-one (m *ℤ w) in
    let o = zero-*ℤ (m *ℤ w) in
    omega (arith, ints, whole, rest, one, j, k, l, o)

-- ---- the same numbers, as the machine reads them
module _ (p q m : ℤ) (s : Span) (ok : AreMixable p q m s) (p_fits : SFits w64 p) (q_fits : SFits w64 q) where
  below_fits : SFits w64 s.below
  below_fits = let a = ok.below in let b = ok.above in let e = ok.whole in let w = ok.width in omega (arith, ints, a, b, e, w)

  above_fits : SFits w64 s.above
  above_fits = let a = ok.below in let b = ok.above in let e = ok.whole in let w = ok.width in omega (arith, ints, a, b, e, w)

  first_is : to_z w64 (of_z w64 p) *ℤ to_z w64 (of_z w64 s.below) ≡ p *ℤ s.below
  first_is = factors_back p s.below p_fits below_fits

  second_is : to_z w64 (of_z w64 q) *ℤ to_z w64 (of_z w64 s.above) ≡ q *ℤ s.above
  second_is = factors_back q s.above q_fits above_fits

  pub first_has_room : SFits w64 (to_z w64 (of_z w64 p) *ℤ to_z w64 (of_z w64 s.below))
  first_has_room = subst (SFits w64) (sym first_is) (first_part p q m s ok)

  pub second_has_room : SFits w64 (to_z w64 (of_z w64 q) *ℤ to_z w64 (of_z w64 s.above))
  second_has_room = subst (SFits w64) (sym second_is) (second_part p q m s ok)

  sum_is : to_z w64 (of_z w64 (to_z w64 (of_z w64 p) *ℤ to_z w64 (of_z w64 s.below))) +ℤ to_z w64 (of_z w64 (to_z w64 (of_z w64 q) *ℤ to_z w64 (of_z w64 s.above))) ≡ mixed p q s.below s.above
  sum_is = sum_same _ _ _ _ (to_z-of_z first_has_room ∙ first_is) (to_z-of_z second_has_room ∙ second_is)

  pub sum_has_room : SFits w64 (to_z w64 (of_z w64 (to_z w64 (of_z w64 p) *ℤ to_z w64 (of_z w64 s.below))) +ℤ to_z w64 (of_z w64 (to_z w64 (of_z w64 q) *ℤ to_z w64 (of_z w64 s.above))))
  sum_has_room = subst (SFits w64) (sym sum_is) (mixed_fits p q m s ok)

  pub sum_back : to_z w64 (of_z w64 (to_z w64 (of_z w64 (to_z w64 (of_z w64 p) *ℤ to_z w64 (of_z w64 s.below))) +ℤ to_z w64 (of_z w64 (to_z w64 (of_z w64 q) *ℤ to_z w64 (of_z w64 s.above))))) ≡ mixed p q s.below s.above
  sum_back = to_z-of_z sum_has_room ∙ sum_is

kept : (m x : ℤ) → IsAtMost m x → SFits w64 x → IsAtMost m (to_z w64 (of_z w64 x))
kept m x s h = subst (IsAtMost m) (sym (to_z-of_z h)) s

-- ---- a cell
-- a place in the cell of a sound one
pub alike_span : (n : ℕ) (p r : Span) → IsSpan n p → AreAlike p r → IsSpan n r
alike_span n p r ok a = record {
  first = subst (λ i. i < n) a.first ok.first;
  second = subst (λ i. i < n) a.second ok.second;
  above = a.above;
  below = a.below;
  whole = a.whole;
  positive = subst (λ (w : ℤ). pos 0 <ℤ w) a.width ok.positive;
  most = subst (λ (w : ℤ). w ≤ℤ pos (2 ^ 41)) a.width ok.most;
}

-- a number at a corner fits in 64 bits
corner_fits : (t : TableParts) (row column : ℕ) (x : ℤ) → IsTable t → row < length t.slews → column < length t.loads → x ≡ cell_value t row column → SFits w64 x
corner_fits t row column x ok h k e = let n = cell_number t ok row column h k in omega (arith, ints, n, e)

module _ (k : Cell) (small : IsSmallCell k) (s c : Span) (s_alike : AreAlike (span_in k.slew.now) s) (c_alike : AreAlike (span_in k.load.now) c) where
  slew_most : s.width ≤ℤ pos (2 ^ 41)
  slew_most = let e = s_alike.width in let m = small.slew.most in omega (arith, ints, e, m)

  load_most : c.width ≤ℤ pos (2 ^ 41)
  load_most = let e = c_alike.width in let m = small.load.most in omega (arith, ints, e, m)

  area_is : k.area ≡ s.width *ℤ c.width
  area_is = small.area ∙ (ap (λ n. n *ℤ k.load.now.width) s_alike.width ∙ ap (λ n. s.width *ℤ n) c_alike.width)

  slew_room : (small.most *ℤ s.width) ≤ℤ pos (2 ^ 62)
  slew_room = width_room small.most k.area s.width c.width small.natural
      (let e = c_alike.width in let p = small.load.positive in omega (arith, ints, e, p))
      (let e = s_alike.width in let p = small.slew.positive in omega (arith, ints, e, p)) area_is small.room

  column_mixable : (p q : ℤ) → IsAtMost small.most p → IsAtMost small.most q → AreMixable p q small.most s
  column_mixable p q a b = record { first = a; second = b; below = s_alike.below; above = s_alike.above; whole = s_alike.whole; width = slew_most; room = slew_room }

  ff_fits : SFits w64 k.first_first
  ff_fits = corner_fits k.table.now _ _ _ small.table small.slew.first small.load.first small.first_first

  fs_fits : SFits w64 k.first_second
  fs_fits = corner_fits k.table.now _ _ _ small.table small.slew.first small.load.second small.first_second

  sf_fits : SFits w64 k.second_first
  sf_fits = corner_fits k.table.now _ _ _ small.table small.slew.second small.load.first small.second_first

  ss_fits : SFits w64 k.second_second
  ss_fits = corner_fits k.table.now _ _ _ small.table small.slew.second small.load.second small.second_second

  pub first_mixable : AreMixable (to_z w64 (of_z w64 k.first_first)) (to_z w64 (of_z w64 k.second_first)) small.most s
  first_mixable = column_mixable _ _ (kept _ _ small.first_first_small ff_fits) (kept _ _ small.second_first_small sf_fits)

  pub second_mixable : AreMixable (to_z w64 (of_z w64 k.first_second)) (to_z w64 (of_z w64 k.second_second)) small.most s
  second_mixable = column_mixable _ _ (kept _ _ small.first_second_small fs_fits) (kept _ _ small.second_second_small ss_fits)

  -- the numbers of both columns, once they are mixed along the slews
  module _ (x y : ℤ) (x_is : x ≡ mixed (to_z w64 (of_z w64 k.first_first)) (to_z w64 (of_z w64 k.second_first)) s.below s.above)
      (y_is : y ≡ mixed (to_z w64 (of_z w64 k.first_second)) (to_z w64 (of_z w64 k.second_second)) s.below s.above) where
    x_small : IsAtMost (small.most *ℤ s.width) x
    x_small = subst (IsAtMost (small.most *ℤ s.width)) (sym x_is) (mixed_small _ _ _ _ first_mixable)

    y_small : IsAtMost (small.most *ℤ s.width) y
    y_small = subst (IsAtMost (small.most *ℤ s.width)) (sym y_is) (mixed_small _ _ _ _ second_mixable)

    x_fits : SFits w64 x
    x_fits = fits _ _ x_small slew_room

    y_fits : SFits w64 y
    y_fits = fits _ _ y_small slew_room

    pub both_mixable : AreMixable (to_z w64 (of_z w64 x)) (to_z w64 (of_z w64 y)) (small.most *ℤ s.width) c
    both_mixable = record {
      first = kept _ _ x_small x_fits;
      second = kept _ _ y_small y_fits;
      below = c_alike.below;
      above = c_alike.above;
      whole = c_alike.whole;
      width = load_most;
      room = area_room small.most k.area s.width c.width area_is small.room;
    }

    pub x_along : x ≡ along_slews k.table.now c.first s
    x_along = rw (x_is, to_z-of_z ff_fits, to_z-of_z sf_fits, small.first_first, small.second_first, s_alike.first, s_alike.second, c_alike.first) refl

    pub y_along : y ≡ along_slews k.table.now c.second s
    y_along = rw (y_is, to_z-of_z fs_fits, to_z-of_z ss_fits, small.first_second, small.second_second, s_alike.first, s_alike.second, c_alike.second) refl

    pub sum_small : IsAtMost (pos (2 ^ 62)) (mixed (to_z w64 (of_z w64 x)) (to_z w64 (of_z w64 y)) c.below c.above)
    sum_small =
        let b = mixed_small _ _ _ _ both_mixable in let r = both_mixable.room in
        record { low = omega (arith, ints, b.low, r); high = omega (arith, ints, b.high, r) }

    -- the quotient is the value of the table
    pub quotient_is : (z r : ℤ) → z ≡ mixed (to_z w64 (of_z w64 x)) (to_z w64 (of_z w64 y)) c.below c.above
        → r ≡ int_div_euclid (to_z w64 (of_z w64 z)) (to_z w64 (of_z w64 k.area)) → SFits w64 k.area → r ≡ value_in k.table.now s c
    quotient_is z r z_is r_is area_fits =
        let z_fits : SFits w64 z = fits (pos (2 ^ 62)) z (subst (IsAtMost (pos (2 ^ 62))) (sym z_is) sum_small) (omega (arith, ints)) in
        r_is
        ∙ (ap (λ n. int_div_euclid n (to_z w64 (of_z w64 k.area))) (to_z-of_z z_fits ∙ z_is)
        ∙ (ap (int_div_euclid (mixed (to_z w64 (of_z w64 x)) (to_z w64 (of_z w64 y)) c.below c.above)) (to_z-of_z area_fits ∙ area_is)
        ∙ (ap (λ n. int_div_euclid (mixed n (to_z w64 (of_z w64 y)) c.below c.above) (s.width *ℤ c.width)) (to_z-of_z x_fits ∙ x_along)
        ∙ (ap (λ n. int_div_euclid (mixed (along_slews k.table.now c.first s) n c.below c.above) (s.width *ℤ c.width)) (to_z-of_z y_fits ∙ y_along)
        ∙ sym (value_by_load k.table.now s c)))))

  pub quotient_number : (r : ℤ) → r ≡ value_in k.table.now s c → IsTableNumber r
  quotient_number r e =
      subst IsTableNumber (sym e) (value_number k.table.now small.table s c (alike_span _ _ s small.slew s_alike) (alike_span _ _ c small.load c_alike))

  pub area_some : pos 0 <ℤ k.area
  area_some = subst (λ (n : ℤ). pos 0 <ℤ n) (sym small.area) (area_positive k.slew.now.width k.load.now.width small.slew.positive small.load.positive)

  pub area_fits : SFits w64 k.area
  area_fits = let p = area_some in let h = small.fits in omega (arith, ints, p, h)

  pub area_back : pos 0 <ℤ to_z w64 (of_z w64 k.area)
  area_back = subst (λ (n : ℤ). pos 0 <ℤ n) (sym (to_z-of_z area_fits)) area_some

-- ---- ends in one cell
lines_same : (xs : List ℤ) (x y : ℤ) (i j : ℕ) (p r : Span) → p ≡ span_at xs x i → r ≡ span_at xs y j → p.first ≡ r.first → (p.second ≡ r.second) × (p.width ≡ r.width)
lines_same xs x y i j p r e f same =
    let h : i ≡ j = sym (ap (λ s. s.first) e) ∙ (same ∙ ap (λ s. s.first) f) in (
      ap (λ s. s.second) e ∙ (ap (λ n. n + 1) h ∙ sym (ap (λ s. s.second) f)),
      ap (λ s. s.width) e ∙ (ap (λ n. get_or xs (n + 1) (pos 0) -ℤ get_or xs n (pos 0)) h ∙ sym (ap (λ s. s.width) f)),
    )

-- two places whose cells have the same first line are in one cell
pub one_cell : (xs : List ℤ) (x y : ℤ) (p r : Span) → IsIndex xs → p ≡ span_of xs x → r ≡ span_of xs y → p.first ≡ r.first → AreAlike p r
one_cell xs x y p r ok e f same =
    let sound = placed_sound xs y r ok f in
    let lines : (p.second ≡ r.second) × (p.width ≡ r.width) = elim (cases_lt 1 (length xs)) [
      | inl h ↦ lines_same xs _ _ _ _ p r (e ∙ span_several xs ok x h) (f ∙ span_several xs ok y h) same
      | inr h ↦
          let some = ok.some in let one : length xs ≡ 1 = omega arith in
          let a = e ∙ span_single xs ok x one in let b = f ∙ span_single xs ok y one in
          (ap (λ s. s.second) a ∙ sym (ap (λ s. s.second) b), ap (λ s. s.width) a ∙ sym (ap (λ s. s.width) b))
    ] in
    record { first = same; second = lines.0; width = lines.1; above = sound.above; below = sound.below; whole = sound.whole }

pub alike_same : (n : ℕ) (p : Span) → IsSpan n p → AreAlike p p
alike_same n p ok = record { first = refl; second = refl; width = refl; above = ok.above; below = ok.below; whole = ok.whole }
