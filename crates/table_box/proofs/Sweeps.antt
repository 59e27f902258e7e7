-- The ranges that the loops over grid lines find are those over all whole points.
use Rattle.std.proofs.Common.{◌≡◌, ℕ, ◌+◌, ◌<◌, ◌≤◌, inl, inr, sym, subst, List, length, get_or, ◌^◌, ℤ, pos, neg_ℤ, ◌≤ℤ◌, arith}
use Rattle.std.specs.Int.{int_min, int_max}
use Rattle.std.proofs.lemmas.Bool.{cases_lt}
use Rattle.std.proofs.lemmas.Int.{ints, clamps}
use Rattle.xt_model.specs.Tables.{TableParts, IsTable, IsTableNumber, IsIndex}
use Rattle.xt_meaning.specs.Lookup.{Box, Span, span_of, value_in, table_value, least_over, greatest_over}
use Rattle.xt_meaning.proofs.Ranges.{IsBox, IsInBox, least_over_below, least_over_most, greatest_over_above, greatest_over_least, least_along_below, least_along_most, greatest_along_above, greatest_along_least}
use Rattle.table_box.specs.Spans.{IsSpan, ReachUpTo, LieBelow}
use Rattle.table_box.specs.Rows.{row_least, row_greatest}
use Rattle.table_box.specs.Ranges.{IsRange}
use Rattle.table_box.proofs.Axis.{same_number, IsConvexAlong, holds_along}
use Rattle.table_box.proofs.Bilinear.{IsBetween, loads_convex, rows_convex, table_value_number}

wider : (m k v m' k' : ℤ) → m' ≤ℤ m → k ≤ℤ k' → IsBetween m k v → IsBetween m' k' v
wider m k v m' k' p q b = let low = b.low in let high = b.high in record { low = omega (arith, ints); high = omega (arith, ints) }

exactly : (m k v : ℤ) → m ≤ℤ v → v ≤ℤ k → IsBetween m k v
exactly m k v p q = record { low = p; high = q }

chain : (l a m v : ℤ) → l ≤ℤ a → a ≡ m → m ≤ℤ v → l ≤ℤ v
chain l a m v p e q = omega (arith, ints)

chain_up : (h b m v : ℤ) → b ≤ℤ h → b ≡ m → v ≤ℤ m → v ≤ℤ h
chain_up h b m v p e q = omega (arith, ints)

least_two : (m l a a' x x' : ℤ) → l ≡ int_min a a' → a ≡ x → a' ≡ x' → m ≤ℤ x → m ≤ℤ x' → m ≤ℤ l
least_two m l a a' x x' e p q h k = omega (arith, ints, clamps)

greatest_two : (m l a a' x x' : ℤ) → l ≡ int_max a a' → a ≡ x → a' ≡ x' → x ≤ℤ m → x' ≤ℤ m → l ≤ℤ m
greatest_two m l a a' x x' e p q h k = omega (arith, ints, clamps)

least_more : (m l l' a x : ℤ) → l' ≡ int_min l a → a ≡ x → m ≤ℤ x → m ≤ℤ l → m ≤ℤ l'
least_more m l l' a x e p h k = omega (arith, ints, clamps)

greatest_more : (m h h' b x : ℤ) → h' ≡ int_max h b → b ≡ x → x ≤ℤ m → h ≤ℤ m → h' ≤ℤ m
greatest_more m h h' b x e p k n = omega (arith, ints, clamps)

-- ---- along an axis
-- what was looked at: both ends, and the lines from number first to before number i
pub record Covered (xs : List ℤ) (Q : Span → Type 0) (x0 x1 : ℤ) (first i : ℕ) : Type 0 where
  pub start : Q (span_of xs x0)
  pub end : Q (span_of xs x1)
  pub lines : (j : ℕ) → first ≤ j → j < i → Q (span_of xs (get_or xs j (pos 0)))

covered_more : (xs : List ℤ) (Q R : Span → Type 0) (x0 x1 : ℤ) (first i : ℕ) → ((s : Span) → Q s → R s) → R (span_of xs (get_or xs i (pos 0)))
    → Covered xs Q x0 x1 first i → Covered xs R x0 x1 first (i + 1)
covered_more xs Q R x0 x1 first i weaker here c = record {
  start = weaker _ c.start;
  end = weaker _ c.end;
  lines = λ j h k. elim (cases_lt j i) [
    | inl p ↦ weaker _ (c.lines j h p)
    | inr p ↦ let e : i ≡ j = omega arith in subst (λ (n : ℕ). R (span_of xs (get_or xs n (pos 0)))) e here
  ];
}

-- once every line between the ends was looked at, it holds at each number
covered_all : (xs : List ℤ) (Q : Span → Type 0) (x0 x1 : ℤ) (first last i : ℕ) → IsIndex xs → IsConvexAlong xs Q → ReachUpTo xs x0 first → LieBelow xs x1 last → last ≤ i
    → Covered xs Q x0 x1 first i → (x : ℤ) → x0 ≤ℤ x → x ≤ℤ x1 → Q (span_of xs x)
covered_all xs Q x0 x1 first last i ok convex below above done c =
    holds_along xs ok Q convex x0 x1 c.start c.end
    (λ j h p q. c.lines j
    (elim (cases_lt j first) [ inl u ↦ absurd (let r = below.reached j u in let bad : ⊥ = omega (arith, ints, p, r) in bad) | inr u ↦ u ])
    (elim (cases_lt j last) [ inl u ↦ omega arith | inr u ↦ absurd (let r = above.beyond j u h in let bad : ⊥ = omega (arith, ints, q, r) in bad) ]))

line_within : (xs : List ℤ) (x0 x1 : ℤ) (first last i : ℕ) → ReachUpTo xs x0 first → LieBelow xs x1 last → first ≤ i → i < last
    → (x0 ≤ℤ get_or xs i (pos 0)) × (get_or xs i (pos 0) ≤ℤ x1)
line_within xs x0 x1 first last i below above h k =
    let most = above.within in let a = below.beyond i h (omega arith) in let b = above.reached i k in
    (omega (arith, ints, a), omega (arith, ints, b))

-- ---- a row, at one slew
-- the numbers l and h are values of the row, or between some, and hold those that were looked at between them
pub record IsRowSoFar (t : TableParts) (s : Span) (c0 c1 : ℤ) (first i : ℕ) (l h : ℤ) : Type 0 where
  pub least : row_least t s c0 c1 ≤ℤ l
  pub greatest : h ≤ℤ row_greatest t s c0 c1
  pub covered : Covered t.loads (λ c. IsBetween l h (value_in t s c)) c0 c1 first i

module _ (t : TableParts) (ok : IsTable t) (s : Span) (sound : IsSpan (length t.slews) s) (c0 c1 : ℤ) (ordered : c0 ≤ℤ c1) where
  row_below : (c : ℤ) → c0 ≤ℤ c → c ≤ℤ c1 → row_least t s c0 c1 ≤ℤ value_in t s (span_of t.loads c)
  row_below c p q = least_along_below (λ x. value_in t s (span_of t.loads x)) c0 c1 c p q

  row_above : (c : ℤ) → c0 ≤ℤ c → c ≤ℤ c1 → value_in t s (span_of t.loads c) ≤ℤ row_greatest t s c0 c1
  row_above c p q = greatest_along_above (λ x. value_in t s (span_of t.loads x)) c0 c1 c p q

  pub row_begins : (first : ℕ) (start end l h : ℤ) → start ≡ value_in t s (span_of t.loads c0) → end ≡ value_in t s (span_of t.loads c1)
      → l ≡ int_min start end → h ≡ int_max start end → IsRowSoFar t s c0 c1 first first l h
  row_begins first start end l h e f p q =
      let refl_low : c0 ≤ℤ c0 = omega (arith, ints) in let refl_high : c1 ≤ℤ c1 = omega (arith, ints) in
      let a = row_below c0 refl_low ordered in let b = row_below c1 ordered refl_high in
      let d = row_above c0 refl_low ordered in let g = row_above c1 ordered refl_high in
      record {
        least = omega (arith, ints, clamps, a, b);
        greatest = omega (arith, ints, clamps, d, g);
        covered = record {
          start = exactly _ _ _ (omega (arith, ints, clamps)) (omega (arith, ints, clamps));
          end = exactly _ _ _ (omega (arith, ints, clamps)) (omega (arith, ints, clamps));
          lines = λ j u v. absurd (omega arith);
        };
      }

  pub row_goes_on : (first last i : ℕ) (v l h l' h' : ℤ) → ReachUpTo t.loads c0 first → LieBelow t.loads c1 last → first ≤ i → i < last
      → v ≡ value_in t s (span_of t.loads (get_or t.loads i (pos 0))) → l' ≡ int_min l v → h' ≡ int_max h v
      → IsRowSoFar t s c0 c1 first i l h → IsRowSoFar t s c0 c1 first (i + 1) l' h'
  row_goes_on first last i v l h l' h' below above from to e p q so_far =
      let inside = line_within t.loads c0 c1 first last i below above from to in
      let a = row_below (get_or t.loads i (pos 0)) inside.0 inside.1 in
      let b = row_above (get_or t.loads i (pos 0)) inside.0 inside.1 in
      let least = so_far.least in let greatest = so_far.greatest in
      record {
        least = omega (arith, ints, clamps, a, least);
        greatest = omega (arith, ints, clamps, b, greatest);
        covered = covered_more t.loads (λ c. IsBetween l h (value_in t s c)) (λ c. IsBetween l' h' (value_in t s c)) c0 c1 first i
            (λ c held. wider l h (value_in t s c) l' h' (omega (arith, ints, clamps)) (omega (arith, ints, clamps)) held)
            (exactly _ _ _ (omega (arith, ints, clamps)) (omega (arith, ints, clamps))) so_far.covered;
      }

  pub row_done : (first last i : ℕ) (l h : ℤ) → ReachUpTo t.loads c0 first → LieBelow t.loads c1 last → last ≤ i → IsRowSoFar t s c0 c1 first i l h
      → (l ≡ row_least t s c0 c1) × (h ≡ row_greatest t s c0 c1)
  row_done first last i l h below above done so_far =
      let each : (c : ℤ) → c0 ≤ℤ c → c ≤ℤ c1 → IsBetween l h (value_in t s (span_of t.loads c)) =
      covered_all t.loads (λ c. IsBetween l h (value_in t s c)) c0 c1 first last i ok.loads (loads_convex t ok l h s sound) below above done so_far.covered in (
        same_number l (row_least t s c0 c1) (least_along_most (λ x. value_in t s (span_of t.loads x)) c0 c1 l ordered (λ c p q. (each c p q).low)) so_far.least,
        same_number h (row_greatest t s c0 c1) so_far.greatest (greatest_along_least (λ x. value_in t s (span_of t.loads x)) c0 c1 h ordered (λ c p q. (each c p q).high)),
      )

  -- where the values of the lines lie between those at the ends, and the first end is not above the second
  pub row_of_rising : (first last : ℕ) (l h : ℤ) → ReachUpTo t.loads c0 first → LieBelow t.loads c1 last
      → l ≡ value_in t s (span_of t.loads c0) → h ≡ value_in t s (span_of t.loads c1) → l ≤ℤ h
      → ((j : ℕ) → first ≤ j → j < last → IsBetween l h (value_in t s (span_of t.loads (get_or t.loads j (pos 0)))))
      → (l ≡ row_least t s c0 c1) × (h ≡ row_greatest t s c0 c1)
  row_of_rising first last l h below above e f rises lines =
      let refl_low : c0 ≤ℤ c0 = omega (arith, ints) in let refl_high : c1 ≤ℤ c1 = omega (arith, ints) in
      let a = row_below c0 refl_low ordered in let b = row_above c1 ordered refl_high in
      row_done first last last l h below above (omega arith) (record {
        least = omega (arith, ints, a, e);
        greatest = omega (arith, ints, b, f);
        covered = record {
          start = exactly _ _ _ (omega (arith, ints, e)) (omega (arith, ints, e, rises));
          end = exactly _ _ _ (omega (arith, ints, f, rises)) (omega (arith, ints, f));
          lines = lines;
        };
      })

-- ---- a box
-- the numbers l and h are values of the box, or between some, and hold those of the rows that were looked at between them
pub record IsBoxSoFar (t : TableParts) (s0 s1 c0 c1 : ℤ) (first i : ℕ) (l h : ℤ) : Type 0 where
  pub least : least_over (table_value t) (record { s0 = s0; s1 = s1; c0 = c0; c1 = c1 }) ≤ℤ l
  pub greatest : h ≤ℤ greatest_over (table_value t) (record { s0 = s0; s1 = s1; c0 = c0; c1 = c1 })
  pub covered : Covered t.slews (λ s. (c : ℤ) → c0 ≤ℤ c → c ≤ℤ c1 → IsBetween l h (value_in t s (span_of t.loads c))) s0 s1 first i

module _ (t : TableParts) (ok : IsTable t) (s0 s1 c0 c1 : ℤ) (slews : s0 ≤ℤ s1) (loads : c0 ≤ℤ c1) where
  box_below : (s : ℤ) → s0 ≤ℤ s → s ≤ℤ s1 → least_over (table_value t) (record { s0 = s0; s1 = s1; c0 = c0; c1 = c1 }) ≤ℤ row_least t (span_of t.slews s) c0 c1
  unfolding least_over table_value
  box_below s p q = least_along_below (λ x. row_least t (span_of t.slews x) c0 c1) s0 s1 s p q

  box_above : (s : ℤ) → s0 ≤ℤ s → s ≤ℤ s1 → row_greatest t (span_of t.slews s) c0 c1 ≤ℤ greatest_over (table_value t) (record { s0 = s0; s1 = s1; c0 = c0; c1 = c1 })
  unfolding greatest_over table_value
  box_above s p q = greatest_along_above (λ x. row_greatest t (span_of t.slews x) c0 c1) s0 s1 s p q

  box_most : (m : ℤ) → ((s : ℤ) → s0 ≤ℤ s → s ≤ℤ s1 → m ≤ℤ row_least t (span_of t.slews s) c0 c1) → m ≤ℤ least_over (table_value t) (record { s0 = s0; s1 = s1; c0 = c0; c1 = c1 })
  unfolding least_over table_value
  box_most m each = least_along_most (λ x. row_least t (span_of t.slews x) c0 c1) s0 s1 m slews each

  box_least : (m : ℤ) → ((s : ℤ) → s0 ≤ℤ s → s ≤ℤ s1 → row_greatest t (span_of t.slews s) c0 c1 ≤ℤ m) → greatest_over (table_value t) (record { s0 = s0; s1 = s1; c0 = c0; c1 = c1 }) ≤ℤ m
  unfolding greatest_over table_value
  box_least m each = greatest_along_least (λ x. row_greatest t (span_of t.slews x) c0 c1) s0 s1 m slews each

  -- the values of a row lie between numbers that its least and its greatest value lie between
  row_held : (s : Span) (a b l h : ℤ) → a ≡ row_least t s c0 c1 → b ≡ row_greatest t s c0 c1 → l ≤ℤ a → b ≤ℤ h
      → (c : ℤ) → c0 ≤ℤ c → c ≤ℤ c1 → IsBetween l h (value_in t s (span_of t.loads c))
  row_held s a b l h e f p q c u v =
      let low = least_along_below (λ x. value_in t s (span_of t.loads x)) c0 c1 c u v in
      let high = greatest_along_above (λ x. value_in t s (span_of t.loads x)) c0 c1 c u v in
      exactly l h (value_in t s (span_of t.loads c)) (chain l a (row_least t s c0 c1) _ p e low) (chain_up h b (row_greatest t s c0 c1) _ q f high)

  pub box_begins : (first : ℕ) (a b a' b' l h : ℤ) → a ≡ row_least t (span_of t.slews s0) c0 c1 → b ≡ row_greatest t (span_of t.slews s0) c0 c1
      → a' ≡ row_least t (span_of t.slews s1) c0 c1 → b' ≡ row_greatest t (span_of t.slews s1) c0 c1
      → l ≡ int_min a a' → h ≡ int_max b b' → IsBoxSoFar t s0 s1 c0 c1 first first l h
  box_begins first a b a' b' l h e f e' f' p q =
      let refl_low : s0 ≤ℤ s0 = omega (arith, ints) in let refl_high : s1 ≤ℤ s1 = omega (arith, ints) in
      record {
        least = least_two _ _ _ _ _ _ p e e' (box_below s0 refl_low slews) (box_below s1 slews refl_high);
        greatest = greatest_two _ _ _ _ _ _ q f f' (box_above s0 refl_low slews) (box_above s1 slews refl_high);
        covered = record {
          start = row_held (span_of t.slews s0) a b l h e f (omega (arith, ints, clamps, p)) (omega (arith, ints, clamps, q));
          end = row_held (span_of t.slews s1) a' b' l h e' f' (omega (arith, ints, clamps, p)) (omega (arith, ints, clamps, q));
          lines = λ j u v. absurd (omega arith);
        };
      }

  pub box_goes_on : (first last i : ℕ) (a b l h l' h' : ℤ) → ReachUpTo t.slews s0 first → LieBelow t.slews s1 last → first ≤ i → i < last
      → a ≡ row_least t (span_of t.slews (get_or t.slews i (pos 0))) c0 c1 → b ≡ row_greatest t (span_of t.slews (get_or t.slews i (pos 0))) c0 c1
      → l' ≡ int_min l a → h' ≡ int_max h b → IsBoxSoFar t s0 s1 c0 c1 first i l h → IsBoxSoFar t s0 s1 c0 c1 first (i + 1) l' h'
  box_goes_on first last i a b l h l' h' below above from to e f p q so_far =
      let inside = line_within t.slews s0 s1 first last i below above from to in
      record {
        least = least_more _ _ _ _ _ p e (box_below (get_or t.slews i (pos 0)) inside.0 inside.1) so_far.least;
        greatest = greatest_more _ _ _ _ _ q f (box_above (get_or t.slews i (pos 0)) inside.0 inside.1) so_far.greatest;
        covered = covered_more t.slews (λ s. (c : ℤ) → c0 ≤ℤ c → c ≤ℤ c1 → IsBetween l h (value_in t s (span_of t.loads c)))
            (λ s. (c : ℤ) → c0 ≤ℤ c → c ≤ℤ c1 → IsBetween l' h' (value_in t s (span_of t.loads c))) s0 s1 first i
            (λ s held c u v. wider l h (value_in t s (span_of t.loads c)) l' h' (omega (arith, ints, clamps, p)) (omega (arith, ints, clamps, q)) (held c u v))
            (row_held (span_of t.slews (get_or t.slews i (pos 0))) a b l' h' e f (omega (arith, ints, clamps, p)) (omega (arith, ints, clamps, q))) so_far.covered;
      }

  pub box_done : (first last i : ℕ) (l h : ℤ) → ReachUpTo t.slews s0 first → LieBelow t.slews s1 last → last ≤ i → IsBoxSoFar t s0 s1 c0 c1 first i l h
      → (l ≡ least_over (table_value t) (record { s0 = s0; s1 = s1; c0 = c0; c1 = c1 })) × (h ≡ greatest_over (table_value t) (record { s0 = s0; s1 = s1; c0 = c0; c1 = c1 }))
  box_done first last i l h below above done so_far =
      let each : (s : ℤ) → s0 ≤ℤ s → s ≤ℤ s1 → (c : ℤ) → c0 ≤ℤ c → c ≤ℤ c1 → IsBetween l h (value_in t (span_of t.slews s) (span_of t.loads c)) =
      covered_all t.slews (λ s. (c : ℤ) → c0 ≤ℤ c → c ≤ℤ c1 → IsBetween l h (value_in t s (span_of t.loads c))) s0 s1 first last i ok.slews
      (rows_convex t ok l h c0 c1) below above done so_far.covered in (
        same_number l _ (box_most l (λ s p q. least_along_most (λ x. value_in t (span_of t.slews s) (span_of t.loads x)) c0 c1 l loads (λ c u v. (each s p q c u v).low))) so_far.least,
        same_number h _ so_far.greatest (box_least h (λ s p q. greatest_along_least (λ x. value_in t (span_of t.slews s) (span_of t.loads x)) c0 c1 h loads (λ c u v. (each s p q c u v).high))),
      )

-- the range of a box is of the size of a table's numbers
module _ (t : TableParts) (ok : IsTable t) (b : Box) (box : IsBox b) where
  corner_in : IsInBox b b.s0 b.c0
  corner_in = record { s_low = omega (arith, ints); s_high = box.slews; c_low = omega (arith, ints); c_high = box.loads }

  pub least_number : IsTableNumber (least_over (table_value t) b)
  least_number =
      let here = least_over_below (table_value t) b b.s0 b.c0 corner_in in
      let value = table_value_number t ok b.s0 b.c0 in
      record {
        low = least_over_most (table_value t) b (neg_ℤ (pos (2 ^ 40))) box (λ s c i. (table_value_number t ok s c).low);
        high = omega (arith, ints, here, value.high);
      }

  pub greatest_number : IsTableNumber (greatest_over (table_value t) b)
  greatest_number =
      let here = greatest_over_above (table_value t) b b.s0 b.c0 corner_in in
      let value = table_value_number t ok b.s0 b.c0 in
      record {
        low = omega (arith, ints, here, value.low);
        high = greatest_over_least (table_value t) b (pos (2 ^ 40)) box (λ s c i. (table_value_number t ok s c).high);
      }

-- ---- where no line lies between the ends
module _ (t : TableParts) (ok : IsTable t) (s : Span) (sound : IsSpan (length t.slews) s) (c0 c1 : ℤ) (ordered : c0 ≤ℤ c1) where
  pub row_of_ends : (first last : ℕ) (start end l h : ℤ) → ReachUpTo t.loads c0 first → LieBelow t.loads c1 last → last ≤ first
      → start ≡ value_in t s (span_of t.loads c0) → end ≡ value_in t s (span_of t.loads c1) → l ≡ int_min start end → h ≡ int_max start end
      → (l ≡ row_least t s c0 c1) × (h ≡ row_greatest t s c0 c1)
  row_of_ends first last start end l h below above none e f p q =
      row_done t ok s sound c0 c1 ordered first last first l h below above none (row_begins t ok s sound c0 c1 ordered first start end l h e f p q)

module _ (t : TableParts) (ok : IsTable t) (s0 s1 c0 c1 : ℤ) (slews : s0 ≤ℤ s1) (loads : c0 ≤ℤ c1) where
  pub box_of_ends : (first last : ℕ) (a b a' b' l h : ℤ) → ReachUpTo t.slews s0 first → LieBelow t.slews s1 last → last ≤ first
      → a ≡ row_least t (span_of t.slews s0) c0 c1 → b ≡ row_greatest t (span_of t.slews s0) c0 c1
      → a' ≡ row_least t (span_of t.slews s1) c0 c1 → b' ≡ row_greatest t (span_of t.slews s1) c0 c1
      → l ≡ int_min a a' → h ≡ int_max b b' → IsRange t (record { s0 = s0; s1 = s1; c0 = c0; c1 = c1 }) (l, h)
  box_of_ends first last a b a' b' l h below above none e f e' f' p q =
      let both = box_done t ok s0 s1 c0 c1 slews loads first last first l h below above none (box_begins t ok s0 s1 c0 c1 slews loads first a b a' b' l h e f e' f' p q) in
      let box : IsBox (record { s0 = s0; s1 = s1; c0 = c0; c1 = c1 }) = record { slews = slews; loads = loads } in
      record {
        least = both.0;
        greatest = both.1;
        least_number = subst IsTableNumber (sym both.0) (least_number t ok _ box);
        greatest_number = subst IsTableNumber (sym both.1) (greatest_number t ok _ box);
      }
