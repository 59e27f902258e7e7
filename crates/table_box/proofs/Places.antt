-- The places that the code finds are those of the definitions.
use Rattle.std.proofs.Common.{◌≡◌, inl, inr, Bool, true, false, ℕ, ◌+◌, ◌-◌, ◌<◌, ◌≤◌, refl, sym, ◌∙◌, ap, subst, List, length, get_or, min, ℤ, pos, ◌-ℤ◌, ◌≤ℤ◌, ◌<ℤ◌, arith, to_z, of_z, to_z-of_z, w64, SFits}
use Rattle.std.specs.Int.{int_min, int_max}
use Rattle.std.proofs.lemmas.Bool.{cases_lt}
use Rattle.std.proofs.lemmas.Int.{ints, clamps, by_lt_z}
use Rattle.xt_model.specs.Tables.{IsIndex, IsTableNumber, TableParts}
use Rattle.xt_meaning.specs.Lookup.{Box, Span, clamped, span_at, span_of}
use Rattle.table_box.specs.Ranges.{IsRange}
use Rattle.table_box.specs.Spans.{IsSpan, LieBelow, ReachUpTo}
use Rattle.table_box.proofs.Cells.{IsCell, rises}
use Rattle.table_box.proofs.Axis.{clamped_keeps, ends_at_least, span_in_cell, span_of_sound}

-- a difference of two numbers of a table, as the machine makes it
pub difference_back : (x y : ℤ) → IsTableNumber x → IsTableNumber y → to_z w64 (of_z w64 (to_z w64 (of_z w64 x) -ℤ to_z w64 (of_z w64 y))) ≡ x -ℤ y
difference_back x y p q = omega (arith, ints, p, q)

pub number_between : (a x b : ℤ) → a ≤ℤ x → x ≤ℤ b → IsTableNumber a → IsTableNumber b → IsTableNumber x
number_between a x b h k p q = record { low = omega (arith, ints, p, q); high = omega (arith, ints, p, q) }

pub same_span : (first second : ℕ) (a b w a' b' w' : ℤ) → a ≡ a' → b ≡ b' → w ≡ w'
    → ◌≡◌ {A = Span} (record { first = first; second = second; above = a; below = b; width = w }) (record { first = first; second = second; above = a'; below = b'; width = w' })
same_span first second a b w a' b' w' p q r =
    let F : ℤ → Span = λ n. record { first = first; second = second; above = n; below = b; width = w } in
    let G : ℤ → Span = λ n. record { first = first; second = second; above = a'; below = n; width = w } in
    let H : ℤ → Span = λ n. record { first = first; second = second; above = a'; below = b'; width = n } in
    ap F p ∙ (ap G q ∙ ap H r)

below_end : (f l g x : ℤ) → x <ℤ g → f <ℤ g → int_max f (int_min x l) <ℤ g
below_end f l g x h k = omega (arith, ints, clamps)

-- the ends bring a number between them
pub ends_number : (f l x : ℤ) → f ≤ℤ l → IsTableNumber f → IsTableNumber l → IsTableNumber (int_max f (int_min x l))
ends_number f l x h p q = record { low = omega (arith, ints, clamps, p, q); high = omega (arith, ints, clamps, p, q) }

-- the last line at or below x begins its cell, but for the first and the last cell
pub found_cell : (xs : List ℤ) (x : ℤ) (n i : ℕ) → IsIndex xs → 1 < length xs → ReachUpTo xs x n → i ≡ min (n - 1) (length xs - 2) → IsCell xs (clamped xs x) i
found_cell xs x n i ok h found e =
    let within = found.within in
    let first : ℤ = get_or xs 0 (pos 0) in
    let last : ℤ = get_or xs (length xs - 1) (pos 0) in
    record {
      there = omega arith;
      low = λ p.
          let a = found.reached i (omega arith) in
          let b : get_or xs i (pos 0) ≤ℤ last = rises xs ok i (length xs - 1) (omega arith) (omega arith) in
          ends_at_least first last (get_or xs i (pos 0)) x a b;
      high = λ p.
          let a = found.beyond (i + 1) (omega arith) (omega arith) in
          let b : first <ℤ get_or xs (i + 1) (pos 0) = ok.rising.each 0 (i + 1) (omega arith) (omega arith) in
          below_end first last (get_or xs (i + 1) (pos 0)) x a b;
    }

-- a number between two lines keeps its place, in the cell of the last line at or below it
pub span_between : (xs : List ℤ) (x : ℤ) (n : ℕ) → IsIndex xs → ReachUpTo xs x n → 0 < n → n < length xs → span_of xs x ≡ span_at xs x (n - 1)
span_between xs x n ok found some more =
    let a = found.reached 0 some in
    let b = found.beyond (length xs - 1) (omega arith) (omega arith) in
    let keeps : clamped xs x ≡ x = clamped_keeps xs ok x a (omega (arith, ints, b)) in
    let cell : IsCell xs (clamped xs x) (n - 1) = found_cell xs x n (n - 1) ok (omega arith) found (omega arith) in
    span_in_cell xs ok x (n - 1) cell ∙ ap (λ y. span_at xs y (n - 1)) keeps

least_fits : (x l : ℤ) → SFits w64 x → SFits w64 l → SFits w64 (int_min x l)
least_fits x l p q = omega (arith, ints, clamps)

pub number_word : (x : ℤ) → IsTableNumber x → SFits w64 x
number_word x p = omega (arith, ints, p)

-- a number brought within two ends, as the machine does it
pub within_back : (f l x m r : ℤ) → f ≤ℤ l → IsTableNumber f → IsTableNumber l → SFits w64 x
    → m ≡ int_min (to_z w64 (of_z w64 x)) (to_z w64 (of_z w64 l)) → r ≡ int_max (to_z w64 (of_z w64 f)) (to_z w64 (of_z w64 m)) → to_z w64 (of_z w64 r) ≡ int_max f (int_min x l)
within_back f l x m r h p q fits e g =
    let first = to_z-of_z (number_word f p) in let last = to_z-of_z (number_word l q) in
    let m_is : m ≡ int_min x l = e ∙ (ap (λ n. int_min n (to_z w64 (of_z w64 l))) (to_z-of_z fits) ∙ ap (λ n. int_min x n) last) in
    let m_fits : SFits w64 m = subst (SFits w64) (sym m_is) (least_fits x l fits (number_word l q)) in
    let r_is : r ≡ int_max f (int_min x l) = g ∙ (ap (λ n. int_max n (to_z w64 (of_z w64 m))) first ∙ (ap (λ n. int_max f n) (to_z-of_z m_fits) ∙ ap (λ n. int_max f n) m_is)) in
    let r_fits : SFits w64 r = subst (SFits w64) (sym r_is) (number_word (int_max f (int_min x l)) (ends_number f l x h p q)) in
    to_z-of_z r_fits ∙ r_is

-- the cell and the number that the code finds
pub cell_among : (xs : List ℤ) (x : ℤ) (n m i : ℕ) → IsIndex xs → (length xs ≡ 1 → ⊥) → ReachUpTo xs x n → m ≡ n - 1 → i ≡ min m (length xs - 2) → IsCell xs (clamped xs x) i
cell_among xs x n m i ok not_one reach e f = let some = ok.some in found_cell xs x n i ok (omega arith) reach (omega arith)

pub number_found : (xs : List ℤ) (x y : ℤ) → SFits w64 x → y ≡ clamped xs (to_z w64 (of_z w64 x)) → IsTableNumber y → to_z w64 (of_z w64 y) ≡ clamped xs x
number_found xs x y fits e p = to_z-of_z (number_word y p) ∙ (e ∙ ap (clamped xs) (to_z-of_z fits))

-- ---- a place that a caller got from the code
pub placed : (xs ys : List ℤ) (x : ℤ) (p : Span) → ys ≡ xs → SFits w64 x → p ≡ span_of ys (to_z w64 (of_z w64 x)) → p ≡ span_of xs x
placed xs ys x p e fits h = h ∙ (ap (λ (zs : List ℤ). span_of zs (to_z w64 (of_z w64 x))) e ∙ ap (span_of xs) (to_z-of_z fits))

pub placed_sound : (xs : List ℤ) (x : ℤ) (p : Span) → IsIndex xs → p ≡ span_of xs x → IsSpan (length xs) p
placed_sound xs x p ok e = subst (IsSpan (length xs)) (sym e) (span_of_sound xs ok x)

-- ---- a range of numbers on an axis
-- the lines at or below a number lie at or below a greater one
pub reached_too : (xs : List ℤ) (x y : ℤ) (n : ℕ) → x ≤ℤ y → ReachUpTo xs x n → (j : ℕ) → j < n → get_or xs j (pos 0) ≤ℤ y
reached_too xs x y n h r j k = let b = r.reached j k in omega (arith, ints, h, b)

-- a line that a number is not found to lie below lies at or below it
pub not_below : (below : Bool) (x g : ℤ) → (x <ℤ g → below ≡ true) → below ≡ false → g ≤ℤ x
not_below below x g found is_not = by_lt_z {P = g ≤ℤ x} x g (λ p. let never : true ≡ false = sym (found p) ∙ is_not in cc) (λ p. p)

-- one line more at or below a number
pub reached_more : (xs : List ℤ) (x : ℤ) (n : ℕ) → ((j : ℕ) → j < n → get_or xs j (pos 0) ≤ℤ x) → get_or xs n (pos 0) ≤ℤ x → (j : ℕ) → j < n + 1 → get_or xs j (pos 0) ≤ℤ x
reached_more xs x n before here j h = elim (cases_lt j n) [
  | inl p ↦ before j p
  | inr p ↦ let e : n ≡ j = omega arith in let P : ℕ → Type 0 = λ i. get_or xs i (pos 0) ≤ℤ x in subst P e here
]

-- the lines before one that a number lies below are all that lie at or below it
pub reach_to : (xs : List ℤ) (x : ℤ) (n : ℕ) → IsIndex xs → n < length xs → ((j : ℕ) → j < n → get_or xs j (pos 0) ≤ℤ x) → x <ℤ get_or xs n (pos 0) → ReachUpTo xs x n
reach_to xs x n ok within reached below = record {
  within = omega arith;
  reached = reached;
  beyond = λ j k l. let b = rises xs ok n j k l in omega (arith, ints, below, b);
}

-- and so are all lines, where each does
pub reach_all : (xs : List ℤ) (x : ℤ) (n : ℕ) → length xs ≤ n → ((j : ℕ) → j < n → get_or xs j (pos 0) ≤ℤ x) → ReachUpTo xs x (length xs)
reach_all xs x n all reached = record {
  within = omega arith;
  reached = λ j k. reached j (omega arith);
  beyond = λ j k l. absurd (omega arith);
}

-- the lines below x, where the first n lie at or below it: all of them, or all but the last
pub below_none : (xs : List ℤ) (x : ℤ) (n : ℕ) → ReachUpTo xs x n → n ≡ 0 → LieBelow xs x 0
below_none xs x n r none = record {
  within = omega arith;
  reached = λ j h. absurd (omega arith);
  beyond = λ j h k. let b = r.beyond j (omega arith) k in omega (arith, ints, b);
}

pub below_one_less : (xs : List ℤ) (x : ℤ) (n : ℕ) → IsIndex xs → ReachUpTo xs x n → 0 < n → get_or xs (n - 1) (pos 0) ≡ x → LieBelow xs x (n - 1)
below_one_less xs x n ok r some is = record {
  within = let w = r.within in omega arith;
  reached = λ j h. let w = r.within in let b = ok.rising.each j (n - 1) h (omega arith) in omega (arith, ints, b, is);
  beyond = λ j h k. elim (cases_lt j n) [
    | inl p ↦ let e : n - 1 ≡ j = omega arith in let P : ℕ → Type 0 = λ i. x ≤ℤ get_or xs i (pos 0) in subst P e (omega (arith, ints, is))
    | inr p ↦ let b = r.beyond j p k in omega (arith, ints, b)
  ];
}

strictly : (a x : ℤ) → a ≤ℤ x → (a ≡ x → ⊥) → a <ℤ x
strictly a x h is_not = omega (arith, ints, h, is_not)

pub below_all : (xs : List ℤ) (x : ℤ) (n : ℕ) → IsIndex xs → ReachUpTo xs x n → 0 < n → (get_or xs (n - 1) (pos 0) ≡ x → ⊥) → LieBelow xs x n
below_all xs x n ok r some is_not = record {
  within = r.within;
  reached = λ j h.
      let w = r.within in
      let top = strictly (get_or xs (n - 1) (pos 0)) x (r.reached (n - 1) (omega arith)) is_not in
      let b = rises xs ok j (n - 1) (omega arith) (omega arith) in
      omega (arith, ints, top, b);
  beyond = λ j h k. let b = r.beyond j h k in omega (arith, ints, b);
}

-- the place of a line of a caller's index
pub line_placed : (xs ys : List ℤ) (j : ℕ) (p : Span) → ys ≡ xs → p ≡ span_of ys (get_or ys j (pos 0)) → p ≡ span_of xs (get_or xs j (pos 0))
line_placed xs ys j p e h = h ∙ ap (λ (zs : List ℤ). span_of zs (get_or zs j (pos 0))) e

-- the least and the greatest of two numbers of a table, as the machine reads them
pub least_back : (a b : ℤ) → IsTableNumber a → IsTableNumber b → int_min (to_z w64 (of_z w64 a)) (to_z w64 (of_z w64 b)) ≡ int_min a b
least_back a b p q = ap (λ n. int_min n (to_z w64 (of_z w64 b))) (to_z-of_z (number_word a p)) ∙ ap (λ n. int_min a n) (to_z-of_z (number_word b q))

pub greatest_back : (a b : ℤ) → IsTableNumber a → IsTableNumber b → int_max (to_z w64 (of_z w64 a)) (to_z w64 (of_z w64 b)) ≡ int_max a b
greatest_back a b p q = ap (λ n. int_max n (to_z w64 (of_z w64 b))) (to_z-of_z (number_word a p)) ∙ ap (λ n. int_max a n) (to_z-of_z (number_word b q))

-- boxes with the same ends are the same
pub same_box : (a b x y a' b' x' y' : ℤ) → a ≡ a' → b ≡ b' → x ≡ x' → y ≡ y' → ◌≡◌ {A = Box} (record { s0 = a; s1 = b; c0 = x; c1 = y }) (record { s0 = a'; s1 = b'; c0 = x'; c1 = y' })
same_box a b x y a' b' x' y' p q r s = rw (p, q, r, s) refl

-- a range over a box is one over the same box
pub range_moved : (t : TableParts) (b d : Box) (r : ℤ × ℤ) → b ≡ d → IsRange t b r → IsRange t d r
range_moved t b d r e h = subst (λ (x : Box). IsRange t x r) e h
