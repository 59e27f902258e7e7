-- Where a number lies on an axis of a table, and what holds along it.
use Rattle.std.proofs.Common.{◌≡◌, ℕ, ◌+◌, ◌-◌, ◌<◌, ◌⊎◌, inl, inr, refl, sym, ◌∙◌, ap, subst, if◌then◌else◌, ◌==◌, List, length, get_or, count_by, ℤ, pos, ◌≤ℤ◌, ◌<ℤ◌, int_le, arith}
use Rattle.std.specs.Int.{int_min, int_max}
use Rattle.std.proofs.lemmas.Bool.{cases_lt}
use Rattle.std.proofs.lemmas.Int.{ints, clamps, by_lt_z}
use Rattle.std.proofs.lemmas.Grind.{common_steps}
use Rattle.xt_model.specs.Tables.{IsIndex}
use Rattle.xt_meaning.specs.Lookup.{Span, clamped, inner_lines, span_at, whole_span, span_of}
use Rattle.table_box.specs.Spans.{IsSpan}
use Rattle.table_box.proofs.Cells.{IsCell, rises, cell_counts, cell_of}

-- ---- a number brought within two ends
within_ends : (f l x : ℤ) → f ≤ℤ l → (f ≤ℤ int_max f (int_min x l)) × (int_max f (int_min x l) ≤ℤ l)
within_ends f l x h = (omega (arith, ints, clamps), omega (arith, ints, clamps))

ends_keep : (f l x : ℤ) → f ≤ℤ x → x ≤ℤ l → int_max f (int_min x l) ≡ x
ends_keep f l x h k = omega (arith, ints, clamps)

pub ends_mono : (f l x y : ℤ) → x ≤ℤ y → int_max f (int_min x l) ≤ℤ int_max f (int_min y l)
ends_mono f l x y h = omega (arith, ints, clamps)

pub ends_at_least : (f l g x : ℤ) → g ≤ℤ x → g ≤ℤ l → g ≤ℤ int_max f (int_min x l)
ends_at_least f l g x h k = omega (arith, ints, clamps)

ends_at_most : (f l g x : ℤ) → x ≤ℤ g → f ≤ℤ g → int_max f (int_min x l) ≤ℤ g
ends_at_most f l g x h k = omega (arith, ints, clamps)

pub same_number : (a b : ℤ) → a ≤ℤ b → b ≤ℤ a → a ≡ b
same_number a b h k = omega (arith, ints)

module _ (xs : List ℤ) (ok : IsIndex xs) where
  many : 0 < length xs
  many = ok.some

  pub first_last : get_or xs 0 (pos 0) ≤ℤ get_or xs (length xs - 1) (pos 0)
  first_last = rises xs ok 0 (length xs - 1) (omega (arith, many)) (omega (arith, many))

  from_first : (j : ℕ) → j < length xs → get_or xs 0 (pos 0) ≤ℤ get_or xs j (pos 0)
  from_first j h = rises xs ok 0 j (omega arith) h

  to_last : (j : ℕ) → j < length xs → get_or xs j (pos 0) ≤ℤ get_or xs (length xs - 1) (pos 0)
  to_last j h = rises xs ok j (length xs - 1) (omega arith) (omega arith)

  pub clamped_within : (x : ℤ) → (get_or xs 0 (pos 0) ≤ℤ clamped xs x) × (clamped xs x ≤ℤ get_or xs (length xs - 1) (pos 0))
  clamped_within x = within_ends _ _ x first_last

  pub clamped_keeps : (x : ℤ) → get_or xs 0 (pos 0) ≤ℤ x → x ≤ℤ get_or xs (length xs - 1) (pos 0) → clamped xs x ≡ x
  clamped_keeps x h k = ends_keep _ _ x h k

  clamped_again : (x : ℤ) → clamped xs (clamped xs x) ≡ clamped xs x
  clamped_again x = let w = clamped_within x in clamped_keeps (clamped xs x) w.0 w.1

  pub clamped_line : (j : ℕ) → j < length xs → clamped xs (get_or xs j (pos 0)) ≡ get_or xs j (pos 0)
  clamped_line j h = clamped_keeps (get_or xs j (pos 0)) (from_first j h) (to_last j h)

  -- ---- the span of a number
  pub span_single : (x : ℤ) → length xs ≡ 1 → span_of xs x ≡ whole_span
  span_single x e = grind (arith, common_steps)

  pub span_several : (x : ℤ) → 1 < length xs → span_of xs x ≡ span_at xs (clamped xs x) (count_by (λ g. int_le g (clamped xs x)) (inner_lines xs))
  span_several x h = grind (arith, common_steps)

  pub span_in_cell : (x : ℤ) (i : ℕ) → IsCell xs (clamped xs x) i → span_of xs x ≡ span_at xs (clamped xs x) i
  span_in_cell x i cell = let h = cell.there in span_several x (omega arith) ∙ ap (span_at xs (clamped xs x)) (cell_counts xs (clamped xs x) i ok cell)

  pub span_clamped : (x : ℤ) → span_of xs (clamped xs x) ≡ span_of xs x
  span_clamped x = ap (λ y. if length xs == 1 then whole_span else span_at xs y (count_by (λ g. int_le g y) (inner_lines xs))) (clamped_again x)

  -- the cell of a clamped number holds it, both lines counted
  pub closed_cell : (x : ℤ) (i : ℕ) → IsCell xs (clamped xs x) i → (get_or xs i (pos 0) ≤ℤ clamped xs x) × (clamped xs x ≤ℤ get_or xs (i + 1) (pos 0))
  closed_cell x i cell =
      let w = clamped_within x in let there = cell.there in
      let low : get_or xs i (pos 0) ≤ℤ clamped xs x = elim (cases_lt 0 i) [
        | inl p ↦ cell.low p
        | inr p ↦ let e : 0 ≡ i = omega arith in let P : ℕ → Type 0 = λ n. get_or xs n (pos 0) ≤ℤ clamped xs x in subst P e w.0
      ] in
      let high : clamped xs x ≤ℤ get_or xs (i + 1) (pos 0) = elim (cases_lt (i + 2) (length xs)) [
        | inl p ↦ let k = cell.high p in omega (arith, ints)
        | inr p ↦ let e : length xs - 1 ≡ i + 1 = omega arith in let P : ℕ → Type 0 = λ n. clamped xs x ≤ℤ get_or xs n (pos 0) in subst P e w.1
      ] in
      (low, high)

  -- a number between two neighbouring lines lies on a span between them
  pub span_at_sound : (y : ℤ) (i : ℕ) → i + 1 < length xs → get_or xs i (pos 0) ≤ℤ y → y ≤ℤ get_or xs (i + 1) (pos 0) → IsSpan (length xs) (span_at xs y i)
  span_at_sound y i h low high =
      let up : get_or xs i (pos 0) <ℤ get_or xs (i + 1) (pos 0) = ok.rising.each i (i + 1) (omega arith) h in
      let a = ok.numbers i (pos 0) (omega arith) in let b = ok.numbers (i + 1) (pos 0) h in
      record {
        first = omega arith;
        second = h;
        above = omega (arith, ints);
        below = omega (arith, ints);
        whole = omega (arith, ints);
        positive = omega (arith, ints);
        most = omega (arith, ints, a.low, a.high, b.low, b.high);
      }

  whole_span_sound : IsSpan (length xs) whole_span
  whole_span_sound = let h = ok.some in record {
    first = h;
    second = h;
    above = omega (arith, ints);
    below = omega (arith, ints);
    whole = omega (arith, ints);
    positive = omega (arith, ints);
    most = omega (arith, ints);
  }

  pub span_of_sound : (x : ℤ) → IsSpan (length xs) (span_of xs x)
  span_of_sound x = elim (cases_lt 1 (length xs)) [
    | inl p ↦
        let found = cell_of xs (clamped xs x) p in let within = closed_cell x found.0 found.1 in
        subst (IsSpan (length xs)) (sym (span_in_cell x found.0 found.1)) (span_at_sound (clamped xs x) found.0 found.1.there within.0 within.1)
    | inr p ↦ let some = ok.some in subst (IsSpan (length xs)) (sym (span_single x (omega arith))) whole_span_sound
  ]

  -- the span of a grid line
  pub span_on_line : (j : ℕ) → j < length xs → (i : ℕ) → i + 1 < length xs → (i ≡ j) ⊎ ((i + 1 ≡ j) × (i + 2 ≡ length xs)) → span_of xs (get_or xs j (pos 0)) ≡ span_at xs (get_or xs j (pos 0)) i
  span_on_line j h i k where_ =
      let keeps = clamped_line j h in
      let cell : IsCell xs (get_or xs j (pos 0)) i = record {
        there = k;
        low = λ p. rises xs ok i j (elim where_ [ inl e ↦ omega arith | inr e ↦ omega arith ]) h;
        high = λ p. elim where_ [
          | inl e ↦ ok.rising.each j (i + 1) (omega arith) k
          | inr e ↦ absurd (omega arith)
        ];
      } in
      span_in_cell (get_or xs j (pos 0)) i (subst (λ (y : ℤ). IsCell xs y i) (sym keeps) cell)
      ∙ ap (λ y. span_at xs y i) keeps

-- ---- what holds along an axis
-- what holds at both ends of a part of a cell holds within it; and where it holds on a line as the lower end of a cell,
-- it holds there as the upper end of the cell before
pub record IsConvexAlong (xs : List ℤ) (Q : Span → Type 0) : Type 0 where
  pub between : (i : ℕ) (a x b : ℤ) → i + 1 < length xs → get_or xs i (pos 0) ≤ℤ a → a ≤ℤ x → x ≤ℤ b → b ≤ℤ get_or xs (i + 1) (pos 0)
      → Q (span_at xs a i) → Q (span_at xs b i) → Q (span_at xs x i)
  pub joined : (i : ℕ) → i + 2 < length xs → Q (span_at xs (get_or xs (i + 1) (pos 0)) (i + 1)) → Q (span_at xs (get_or xs (i + 1) (pos 0)) i)

module _ (xs : List ℤ) (ok : IsIndex xs) (Q : Span → Type 0) (convex : IsConvexAlong xs Q) (x0 x1 : ℤ)
    (start : Q (span_of xs x0)) (end : Q (span_of xs x1))
    (lines : (j : ℕ) → j < length xs → x0 <ℤ get_or xs j (pos 0) → get_or xs j (pos 0) <ℤ x1 → Q (span_of xs (get_or xs j (pos 0)))) where
  at_start : Q (span_of xs (clamped xs x0))
  at_start = subst Q (sym (span_clamped xs ok x0)) start

  at_end : Q (span_of xs (clamped xs x1))
  at_end = subst Q (sym (span_clamped xs ok x1)) end

  -- a line between the clamped ends is an end or lies between them
  at_line : (j : ℕ) → j < length xs → clamped xs x0 ≤ℤ get_or xs j (pos 0) → get_or xs j (pos 0) ≤ℤ clamped xs x1 → Q (span_of xs (get_or xs j (pos 0)))
  at_line j h low high =
      by_lt_z {P = Q (span_of xs (get_or xs j (pos 0)))} x0 (get_or xs j (pos 0))
      (λ p. by_lt_z {P = Q (span_of xs (get_or xs j (pos 0)))} (get_or xs j (pos 0)) x1
      (λ q. lines j h p q)
      (λ q. let e = same_number (clamped xs x1) (get_or xs j (pos 0)) (ends_at_most _ _ _ x1 q (from_first xs ok j h)) high in
      subst (λ (y : ℤ). Q (span_of xs y)) e at_end))
      (λ p. let e = same_number (clamped xs x0) (get_or xs j (pos 0)) low (ends_at_least _ _ _ x0 p (to_last xs ok j h)) in
      subst (λ (y : ℤ). Q (span_of xs y)) e at_start)

  -- in one cell
  module _ (x : ℤ) (low : x0 ≤ℤ x) (high : x ≤ℤ x1) (i : ℕ) (cell : IsCell xs (clamped xs x) i) where
    here : (get_or xs i (pos 0) ≤ℤ clamped xs x) × (clamped xs x ≤ℤ get_or xs (i + 1) (pos 0))
    here = closed_cell xs ok x i cell

    before : clamped xs x0 ≤ℤ clamped xs x
    before = ends_mono _ _ x0 x low

    after : clamped xs x ≤ℤ clamped xs x1
    after = ends_mono _ _ x x1 high

    -- the span of a number of the cell that is below its second line, or in the last cell
    in_cell : (y : ℤ) → clamped xs y ≡ y → IsCell xs y i → Q (span_of xs y) → Q (span_at xs y i)
    in_cell y e c q = subst Q (span_in_cell xs ok y i (subst (λ (z : ℤ). IsCell xs z i) (sym e) c) ∙ ap (λ z. span_at xs z i) e) q

    -- with an upper end, the lower end is the first line or the start
    holds_below : (b : ℤ) → clamped xs x ≤ℤ b → b ≤ℤ get_or xs (i + 1) (pos 0) → Q (span_at xs b i) → Q (span_at xs (clamped xs x) i)
    holds_below b h k q =
        by_lt_z {P = Q (span_at xs (clamped xs x) i)} (clamped xs x0) (get_or xs i (pos 0))
        (λ p. let there = cell.there in
        let c : clamped xs x0 ≤ℤ get_or xs i (pos 0) = omega (arith, ints) in
        let d : get_or xs i (pos 0) ≤ℤ clamped xs x1 = omega (arith, ints, here.0, after) in
        let r : get_or xs i (pos 0) ≤ℤ get_or xs i (pos 0) = omega (arith, ints) in
        convex.between i (get_or xs i (pos 0)) (clamped xs x) b there r here.0 h k
        (subst Q (span_on_line xs ok i (omega arith) i there (inl refl)) (at_line i (omega arith) c d)) q)
        (λ p. let there = cell.there in
        let c : IsCell xs (clamped xs x0) i = record { there = there; low = λ u. p; high = λ u. let v = cell.high u in omega (arith, ints, before, v) } in
        convex.between i (clamped xs x0) (clamped xs x) b there p before h k (in_cell (clamped xs x0) (clamped_again xs ok x0) c at_start) q)

    holds_in_cell : Q (span_of xs x)
    holds_in_cell =
        let there = cell.there in
        subst Q (sym (span_in_cell xs ok x i cell))
        (by_lt_z {P = Q (span_at xs (clamped xs x) i)} (clamped xs x1) (get_or xs (i + 1) (pos 0))
        (λ p. let c : IsCell xs (clamped xs x1) i = record { there = there; low = λ u. let v = cell.low u in omega (arith, ints, after, v); high = λ u. p } in
        let k : clamped xs x1 ≤ℤ get_or xs (i + 1) (pos 0) = omega (arith, ints) in
        holds_below (clamped xs x1) after k (in_cell (clamped xs x1) (clamped_again xs ok x1) c at_end))
        (λ p. let c : clamped xs x0 ≤ℤ get_or xs (i + 1) (pos 0) = omega (arith, ints, here.1, before) in
        let r : get_or xs (i + 1) (pos 0) ≤ℤ get_or xs (i + 1) (pos 0) = omega (arith, ints) in
        let q = at_line (i + 1) there c p in
        holds_below (get_or xs (i + 1) (pos 0)) here.1 r
        (elim (cases_lt (i + 2) (length xs)) [
          | inl u ↦ convex.joined i u (subst Q (span_on_line xs ok (i + 1) there (i + 1) (omega arith) (inl refl)) q)
          | inr u ↦ subst Q (span_on_line xs ok (i + 1) there i there (inr (refl, omega arith))) q
        ])))

  -- what holds at both ends and on each line between them holds at each number between them
  pub holds_along : (x : ℤ) → x0 ≤ℤ x → x ≤ℤ x1 → Q (span_of xs x)
  holds_along x low high = elim (cases_lt 1 (length xs)) [
    | inl p ↦ let found = cell_of xs (clamped xs x) p in holds_in_cell x low high found.0 found.1
    | inr p ↦ let some = ok.some in let e : length xs ≡ 1 = omega arith in
        subst Q (span_single xs ok x0 e ∙ sym (span_single xs ok x e)) start
  ]
