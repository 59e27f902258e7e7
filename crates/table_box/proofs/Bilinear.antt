-- Values of a table: their bounds, and how they go along each axis.
use Rattle.std.proofs.Common.{◌≡◌, ℕ, ◌+◌, ◌-◌, ◌*◌, ◌^◌, ◌<◌, ◌≤◌, inl, inr, refl, sym, ◌∙◌, ap, subst, length, get_or, ℤ, pos, negsuc, neg_ℤ, ◌+ℤ◌, ◌-ℤ◌, ◌*ℤ◌, ◌≤ℤ◌, ◌<ℤ◌, arith}
use Rattle.std.specs.Int.{int_div_euclid}
use Rattle.std.proofs.lemmas.Bool.{cases_lt}
use Rattle.std.proofs.lemmas.Int.{ints, by_lt_z}
use Rattle.std.proofs.lemmas.Nat.{mul-add-lt, mul-le}
use Rattle.std.proofs.Math.IntN.{*ℤ_comm, *ℤ-zero}
use Rattle.xt_model.specs.Tables.{TableParts, IsTable, IsTableNumber}
use Rattle.xt_meaning.specs.Lookup.{Span, span_at, span_of, whole_span, cell_value, value_in, table_value}
use Rattle.table_box.specs.Spans.{IsSpan}
use Rattle.table_box.specs.Mixes.{mixed, along_slews}
use Rattle.table_box.proofs.Products.{mixed_rises, mixed_falls, mixed_most, mixed_least, mul_swap, corners_by_first, corners_by_second}
use Rattle.table_box.proofs.Floors.{floor_mono, floor_scaled, floor_most, floor_least}
use Rattle.table_box.proofs.Axis.{IsConvexAlong, span_of_sound, span_on_line, span_single}

-- v is from m to k
pub record IsBetween (m k v : ℤ) : Type 0 where
  pub low : m ≤ℤ v
  pub high : v ≤ℤ k

-- ---- plain numbers
pub area_positive : (w h : ℤ) → pos 0 <ℤ w → pos 0 <ℤ h → pos 0 <ℤ (w *ℤ h)
area_positive (pos w) (pos h) p q = let k : 1 * 1 ≤ w * h = mul-le 1 1 w h (omega (arith, ints)) (omega (arith, ints)) in omega (arith, ints)
area_positive (pos w) (negsuc h) p q = absurd (omega (arith, ints))
area_positive (negsuc w) h p q = absurd (omega (arith, ints))

pub fraction_mono : (x y area : ℤ) → pos 0 <ℤ area → x ≤ℤ y → int_div_euclid x area ≤ℤ int_div_euclid y area
fraction_mono x y (pos n) p h = floor_mono x y n (omega (arith, ints)) h
fraction_mono x y (negsuc n) p h = absurd (omega (arith, ints))

fraction_most : (x m area : ℤ) → pos 0 <ℤ area → x ≤ℤ (m *ℤ area) → int_div_euclid x area ≤ℤ m
fraction_most x m (pos n) p h = floor_most x m n (omega (arith, ints)) h
fraction_most x m (negsuc n) p h = absurd (omega (arith, ints))

fraction_least : (x m area : ℤ) → pos 0 <ℤ area → (m *ℤ area) ≤ℤ x → m ≤ℤ int_div_euclid x area
fraction_least x m (pos n) p h = floor_least x m n (omega (arith, ints)) h
fraction_least x m (negsuc n) p h = absurd (omega (arith, ints))

-- the floor of a sum of two weighted numbers goes one way, so it lies between those at the ends
floor_between : (m k p q area w ba aa bx ax bb ab : ℤ) → pos 0 <ℤ area → aa ≤ℤ ax → ax ≤ℤ ab → ba +ℤ aa ≡ w → bx +ℤ ax ≡ w → bb +ℤ ab ≡ w
    → IsBetween m k (int_div_euclid (mixed p q ba aa) area) → IsBetween m k (int_div_euclid (mixed p q bb ab) area) → IsBetween m k (int_div_euclid (mixed p q bx ax) area)
floor_between m k p q area w ba aa bx ax bb ab positive h g ea ex eb start end =
    let s0 = start.low in let s1 = start.high in let e0 = end.low in let e1 = end.high in
    let d : ax ≡ aa +ℤ (ax -ℤ aa) = omega (arith, ints) in
    let d' : ba ≡ bx +ℤ (ax -ℤ aa) = omega (arith, ints) in
    let f : ab ≡ ax +ℤ (ab -ℤ ax) = omega (arith, ints) in
    let f' : bx ≡ bb +ℤ (ab -ℤ ax) = omega (arith, ints) in
    let dp : pos 0 ≤ℤ (ax -ℤ aa) = omega (arith, ints) in
    let fp : pos 0 ≤ℤ (ab -ℤ ax) = omega (arith, ints) in
    by_lt_z {P = IsBetween m k (int_div_euclid (mixed p q bx ax) area)} q p
    (λ u. let v : q ≤ℤ p = omega (arith, ints) in
    let x = fraction_mono _ _ area positive (mixed_falls p q ba aa bx ax (ax -ℤ aa) v dp d d') in
    let y = fraction_mono _ _ area positive (mixed_falls p q bx ax bb ab (ab -ℤ ax) v fp f f') in
    record { low = omega (arith, ints, x, y, s0, s1, e0, e1); high = omega (arith, ints, x, y, s0, s1, e0, e1) })
    (λ v. let x = fraction_mono _ _ area positive (mixed_rises p q ba aa bx ax (ax -ℤ aa) v dp d d') in
    let y = fraction_mono _ _ area positive (mixed_rises p q bx ax bb ab (ab -ℤ ax) v fp f f') in
    record { low = omega (arith, ints, x, y, s0, s1, e0, e1); high = omega (arith, ints, x, y, s0, s1, e0, e1) })

-- at an end of the distance only one number has weight
pub fraction_scaled : (q w h : ℤ) → pos 0 <ℤ w → pos 0 <ℤ h → int_div_euclid (q *ℤ w) (w *ℤ h) ≡ int_div_euclid q h
fraction_scaled q (pos w) (pos h) p k =
    let e : w * h ≡ h * w = omega arith in
    ap (λ n. int_div_euclid (q *ℤ pos w) (pos n)) e ∙ floor_scaled q h w (omega (arith, ints))
fraction_scaled q (pos w) (negsuc h) p k = absurd (omega (arith, ints))
fraction_scaled q (negsuc w) h p k = absurd (omega (arith, ints))

only_second : (p q b a : ℤ) → b ≡ pos 0 → mixed p q b a ≡ q *ℤ a
only_second p q b a e = let x : p *ℤ b ≡ p *ℤ pos 0 = ap (λ n. p *ℤ n) e in let y = *ℤ-zero p in omega (arith, ints)

only_first : (p q b a : ℤ) → a ≡ pos 0 → mixed p q b a ≡ p *ℤ b
only_first p q b a e = let x : q *ℤ a ≡ q *ℤ pos 0 = ap (λ n. q *ℤ n) e in let y = *ℤ-zero q in omega (arith, ints)

upper_end : (p q w h b : ℤ) → pos 0 <ℤ w → pos 0 <ℤ h → b ≡ pos 0 → int_div_euclid (mixed p q b w) (w *ℤ h) ≡ int_div_euclid q h
upper_end p q w h b r s e = ap (λ n. int_div_euclid n (w *ℤ h)) (only_second p q b w e) ∙ fraction_scaled q w h r s

lower_end : (p q w h a : ℤ) → pos 0 <ℤ w → pos 0 <ℤ h → a ≡ pos 0 → int_div_euclid (mixed p q w a) (w *ℤ h) ≡ int_div_euclid p h
lower_end p q w h a r s e = ap (λ n. int_div_euclid n (w *ℤ h)) (only_first p q w a e) ∙ fraction_scaled p w h r s

pub swapped_area : (n w h : ℤ) → int_div_euclid n (w *ℤ h) ≡ int_div_euclid n (h *ℤ w)
swapped_area n w h = ap (int_div_euclid n) (*ℤ_comm w h)

pub mul_assoc : (a b c : ℤ) → (a *ℤ b) *ℤ c ≡ a *ℤ (c *ℤ b)
mul_assoc a b c = ap (λ n. n *ℤ c) (*ℤ_comm a b) ∙ (mul_swap b a c ∙ (ap (λ n. n *ℤ a) (*ℤ_comm b c) ∙ *ℤ_comm (c *ℤ b) a))

-- ---- a table
-- a number of a row, mixed along the loads
abbrev pub along_loads : TableParts → ℕ → Span → ℤ
along_loads t row c = mixed (cell_value t row c.first) (cell_value t row c.second) c.below c.above

pub value_by_slew : (t : TableParts) (s c : Span) → value_in t s c ≡ int_div_euclid (mixed (along_loads t s.first c) (along_loads t s.second c) s.below s.above) (s.width *ℤ c.width)
value_by_slew t s c = ap (λ n. int_div_euclid n (s.width *ℤ c.width))
    (corners_by_first (cell_value t s.first c.first) (cell_value t s.first c.second) (cell_value t s.second c.first) (cell_value t s.second c.second) s.below s.above c.below c.above)

pub value_by_load : (t : TableParts) (s c : Span) → value_in t s c ≡ int_div_euclid (mixed (along_slews t c.first s) (along_slews t c.second s) c.below c.above) (s.width *ℤ c.width)
value_by_load t s c = ap (λ n. int_div_euclid n (s.width *ℤ c.width))
    (corners_by_second (cell_value t s.first c.first) (cell_value t s.first c.second) (cell_value t s.second c.first) (cell_value t s.second c.second) s.below s.above c.below c.above)

module _ (t : TableParts) (ok : IsTable t) where
  pub cell_number : (row column : ℕ) → row < length t.slews → column < length t.loads → IsTableNumber (cell_value t row column)
  cell_number row column h k =
      let count = ok.count in let inside = mul-add-lt row (length t.loads) column (length t.slews) h k in
      ok.values (row * length t.loads + column) (pos 0) (omega arith)

  -- ---- bounds
  module _ (s c : Span) (sound_s : IsSpan (length t.slews) s) (sound_c : IsSpan (length t.loads) c) where
    area_is_positive : pos 0 <ℤ (s.width *ℤ c.width)
    area_is_positive = area_positive s.width c.width sound_s.positive sound_c.positive

    whole_s : s.width ≡ s.below +ℤ s.above
    whole_s = sym sound_s.whole

    whole_c : c.width ≡ c.below +ℤ c.above
    whole_c = sym sound_c.whole

    row_most : (row : ℕ) → row < length t.slews → along_loads t row c ≤ℤ (pos (2 ^ 40) *ℤ c.width)
    row_most row h = mixed_most (pos (2 ^ 40)) _ _ _ _ c.width (cell_number row c.first h sound_c.first).high (cell_number row c.second h sound_c.second).high sound_c.below sound_c.above whole_c

    row_least : (row : ℕ) → row < length t.slews → (neg_ℤ (pos (2 ^ 40)) *ℤ c.width) ≤ℤ along_loads t row c
    row_least row h = mixed_least (neg_ℤ (pos (2 ^ 40))) _ _ _ _ c.width (cell_number row c.first h sound_c.first).low (cell_number row c.second h sound_c.second).low sound_c.below sound_c.above whole_c

    pub value_number : IsTableNumber (value_in t s c)
    value_number =
        let e = value_by_slew t s c in
        let most = mixed_most (pos (2 ^ 40) *ℤ c.width) (along_loads t s.first c) (along_loads t s.second c) s.below s.above s.width
        (row_most s.first sound_s.first) (row_most s.second sound_s.second) sound_s.below sound_s.above whole_s in
        let least = mixed_least (neg_ℤ (pos (2 ^ 40)) *ℤ c.width) (along_loads t s.first c) (along_loads t s.second c) s.below s.above s.width
        (row_least s.first sound_s.first) (row_least s.second sound_s.second) sound_s.below sound_s.above whole_s in
        let P : ℤ → Type 0 = λ n. mixed (along_loads t s.first c) (along_loads t s.second c) s.below s.above ≤ℤ n in
        let R : ℤ → Type 0 = λ n. n ≤ℤ mixed (along_loads t s.first c) (along_loads t s.second c) s.below s.above in
        subst IsTableNumber (sym e) (record {
          low = fraction_least _ (neg_ℤ (pos (2 ^ 40))) (s.width *ℤ c.width) area_is_positive (subst R (mul_assoc (neg_ℤ (pos (2 ^ 40))) c.width s.width) least);
          high = fraction_most _ (pos (2 ^ 40)) (s.width *ℤ c.width) area_is_positive (subst P (mul_assoc (pos (2 ^ 40)) c.width s.width) most);
        })

  pub table_value_number : (s c : ℤ) → IsTableNumber (table_value t s c)
  unfolding table_value
  table_value_number s c = value_number (span_of t.slews s) (span_of t.loads c) (span_of_sound t.slews ok.slews s) (span_of_sound t.loads ok.loads c)

  -- ---- along the slews, at one load
  module _ (m k : ℤ) (c : Span) (sound_c : IsSpan (length t.loads) c) where
    cells_wide : (i : ℕ) → i + 1 < length t.slews → pos 0 <ℤ (get_or t.slews (i + 1) (pos 0) -ℤ get_or t.slews i (pos 0))
    cells_wide i h = let r = ok.slews.rising.each i (i + 1) (omega arith) h in omega (arith, ints, r)

    slews_between : (i : ℕ) (a x b : ℤ) → i + 1 < length t.slews → a ≤ℤ x → x ≤ℤ b
        → IsBetween m k (value_in t (span_at t.slews a i) c) → IsBetween m k (value_in t (span_at t.slews b i) c) → IsBetween m k (value_in t (span_at t.slews x i) c)
    slews_between i a x b h p q start end =
        let first : ℤ = get_or t.slews i (pos 0) in
        let second : ℤ = get_or t.slews (i + 1) (pos 0) in
        subst (IsBetween m k) (sym (value_by_slew t (span_at t.slews x i) c))
        (floor_between m k (along_loads t i c) (along_loads t (i + 1) c) ((second -ℤ first) *ℤ c.width) (second -ℤ first)
        (second -ℤ a) (a -ℤ first) (second -ℤ x) (x -ℤ first) (second -ℤ b) (b -ℤ first)
        (area_positive (second -ℤ first) c.width (cells_wide i h) sound_c.positive)
        (omega (arith, ints)) (omega (arith, ints)) (omega (arith, ints)) (omega (arith, ints)) (omega (arith, ints))
        (subst (IsBetween m k) (value_by_slew t (span_at t.slews a i) c) start)
        (subst (IsBetween m k) (value_by_slew t (span_at t.slews b i) c) end))

    -- a point on a grid line has one value, whichever of the two cells beside it is asked
    slews_joined : (i : ℕ) → i + 2 < length t.slews
        → value_in t (span_at t.slews (get_or t.slews (i + 1) (pos 0)) (i + 1)) c ≡ value_in t (span_at t.slews (get_or t.slews (i + 1) (pos 0)) i) c
    slews_joined i h =
        let first : ℤ = get_or t.slews i (pos 0) in
        let line : ℤ = get_or t.slews (i + 1) (pos 0) in
        let second : ℤ = get_or t.slews (i + 1 + 1) (pos 0) in
        value_by_slew t (span_at t.slews line (i + 1)) c
        ∙ (lower_end (along_loads t (i + 1) c) (along_loads t (i + 1 + 1) c) (second -ℤ line) c.width (line -ℤ line) (cells_wide (i + 1) (omega arith)) sound_c.positive (omega (arith, ints))
        ∙ (sym (upper_end (along_loads t i c) (along_loads t (i + 1) c) (line -ℤ first) c.width (line -ℤ line) (cells_wide i (omega arith)) sound_c.positive (omega (arith, ints)))
        ∙ sym (value_by_slew t (span_at t.slews line i) c)))

  -- ---- along the loads, at one slew
  module _ (m k : ℤ) (s : Span) (sound_s : IsSpan (length t.slews) s) where
    columns_wide : (i : ℕ) → i + 1 < length t.loads → pos 0 <ℤ (get_or t.loads (i + 1) (pos 0) -ℤ get_or t.loads i (pos 0))
    columns_wide i h = let r = ok.loads.rising.each i (i + 1) (omega arith) h in omega (arith, ints, r)

    loads_between : (i : ℕ) (a x b : ℤ) → i + 1 < length t.loads → a ≤ℤ x → x ≤ℤ b
        → IsBetween m k (value_in t s (span_at t.loads a i)) → IsBetween m k (value_in t s (span_at t.loads b i)) → IsBetween m k (value_in t s (span_at t.loads x i))
    loads_between i a x b h p q start end =
        let first : ℤ = get_or t.loads i (pos 0) in
        let second : ℤ = get_or t.loads (i + 1) (pos 0) in
        subst (IsBetween m k) (sym (value_by_load t s (span_at t.loads x i)))
        (floor_between m k (along_slews t i s) (along_slews t (i + 1) s) (s.width *ℤ (second -ℤ first)) (second -ℤ first)
        (second -ℤ a) (a -ℤ first) (second -ℤ x) (x -ℤ first) (second -ℤ b) (b -ℤ first)
        (area_positive s.width (second -ℤ first) sound_s.positive (columns_wide i h))
        (omega (arith, ints)) (omega (arith, ints)) (omega (arith, ints)) (omega (arith, ints)) (omega (arith, ints))
        (subst (IsBetween m k) (value_by_load t s (span_at t.loads a i)) start)
        (subst (IsBetween m k) (value_by_load t s (span_at t.loads b i)) end))

    loads_joined : (i : ℕ) → i + 2 < length t.loads
        → value_in t s (span_at t.loads (get_or t.loads (i + 1) (pos 0)) (i + 1)) ≡ value_in t s (span_at t.loads (get_or t.loads (i + 1) (pos 0)) i)
    loads_joined i h =
        let first : ℤ = get_or t.loads i (pos 0) in
        let line : ℤ = get_or t.loads (i + 1) (pos 0) in
        let second : ℤ = get_or t.loads (i + 1 + 1) (pos 0) in
        value_by_load t s (span_at t.loads line (i + 1))
        ∙ (swapped_area _ s.width (second -ℤ line)
        ∙ (lower_end (along_slews t (i + 1) s) (along_slews t (i + 1 + 1) s) (second -ℤ line) s.width (line -ℤ line) (columns_wide (i + 1) (omega arith)) sound_s.positive (omega (arith, ints))
        ∙ (sym (upper_end (along_slews t i s) (along_slews t (i + 1) s) (line -ℤ first) s.width (line -ℤ line) (columns_wide i (omega arith)) sound_s.positive (omega (arith, ints)))
        ∙ (sym (swapped_area _ s.width (line -ℤ first))
        ∙ sym (value_by_load t s (span_at t.loads line i))))))

    pub loads_convex : IsConvexAlong t.loads (λ c. IsBetween m k (value_in t s c))
    loads_convex = record {
      between = λ i a x b h l p q u start end. loads_between i a x b h p q start end;
      joined = λ i h held. subst (IsBetween m k) (loads_joined i h) held;
    }

  -- the value on a grid line needs the numbers of that line alone
  module _ (s : Span) (sound_s : IsSpan (length t.slews) s) where
    on_first : (c : Span) → pos 0 <ℤ c.width → c.below ≡ c.width → c.above ≡ pos 0 → value_in t s c ≡ int_div_euclid (along_slews t c.first s) s.width
    on_first c wide below above =
        let p = along_slews t c.first s in let q = along_slews t c.second s in
        let P : ℤ → Type 0 = λ b. int_div_euclid (mixed p q b c.above) (c.width *ℤ s.width) ≡ int_div_euclid p s.width in
        value_by_load t s c ∙ (swapped_area _ s.width c.width ∙ subst P (sym below) (lower_end p q c.width s.width c.above wide sound_s.positive above))

    on_second : (c : Span) → pos 0 <ℤ c.width → c.below ≡ pos 0 → c.above ≡ c.width → value_in t s c ≡ int_div_euclid (along_slews t c.second s) s.width
    on_second c wide below above =
        let p = along_slews t c.first s in let q = along_slews t c.second s in
        let P : ℤ → Type 0 = λ a. int_div_euclid (mixed p q c.below a) (c.width *ℤ s.width) ≡ int_div_euclid q s.width in
        value_by_load t s c ∙ (swapped_area _ s.width c.width ∙ subst P (sym above) (upper_end p q c.width s.width c.below wide sound_s.positive below))

    pub on_line : (line : ℕ) → line < length t.loads → value_in t s (span_of t.loads (get_or t.loads line (pos 0))) ≡ int_div_euclid (along_slews t line s) s.width
    on_line line h = let g : ℤ = get_or t.loads line (pos 0) in elim (cases_lt 1 (length t.loads)) [
      | inl p ↦ elim (cases_lt (line + 1) (length t.loads)) [
        | inl q ↦
            let up = ok.loads.rising.each line (line + 1) (omega arith) q in
            let c = span_at t.loads g line in
            ap (value_in t s) (span_on_line t.loads ok.loads line h line q (inl refl)) ∙ on_first c (omega (arith, ints, up)) refl (omega (arith, ints))
        | inr q ↦
            let i = line - 1 in
            let e : i + 1 ≡ line = omega arith in
            let up = ok.loads.rising.each i (i + 1) (omega arith) (omega arith) in
            let c = span_at t.loads g i in
            let second : get_or t.loads (i + 1) (pos 0) ≡ g = ap (λ n. get_or t.loads n (pos 0)) e in
            let P : ℕ → Type 0 = λ n. value_in t s c ≡ int_div_euclid (along_slews t n s) s.width in
            ap (value_in t s) (span_on_line t.loads ok.loads line h i (omega arith) (inr (e, omega arith)))
            ∙ subst P e (on_second c (omega (arith, ints, up)) (omega (arith, ints, second)) (omega (arith, ints, second)))
      ]
      | inr p ↦
          let some = ok.loads.some in
          let P : ℕ → Type 0 = λ n. int_div_euclid (along_slews t 0 s) s.width ≡ int_div_euclid (along_slews t n s) s.width in
          let e : 0 ≡ line = omega arith in
          ap (value_in t s) (span_single t.loads ok.loads g (omega arith)) ∙ (on_first whole_span (omega (arith, ints)) refl refl ∙ subst P e refl)
    ]

  -- ---- whole rows, from one load to another
  pub rows_convex : (m k c0 c1 : ℤ) → IsConvexAlong t.slews (λ s. (c : ℤ) → c0 ≤ℤ c → c ≤ℤ c1 → IsBetween m k (value_in t s (span_of t.loads c)))
  rows_convex m k c0 c1 = record {
    between = λ i a x b h l p q u start end c low high. slews_between m k (span_of t.loads c) (span_of_sound t.loads ok.loads c) i a x b h p q (start c low high) (end c low high);
    joined = λ i h held c low high. subst (IsBetween m k) (slews_joined m k (span_of t.loads c) (span_of_sound t.loads ok.loads c) i h) (held c low high);
  }
