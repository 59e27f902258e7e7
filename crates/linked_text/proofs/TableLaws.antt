-- The laws of the lines of tables.
use Rattle.std.proofs.Common.{◌≡◌, ℕ, zero, suc, ◌*◌, ◌^◌, ◌<◌, ◌≤◌, List, [], ◌∷◌, ◌++◌, length, map, take, drop, get_or, eqb, ℤ, pos, ◌<ℤ◌, Bool, true, false, ◌&&◌, Some, Ok, refl, sym, ap, subst, ◌∙◌, append_assoc, suc-mul, arith}
use Rattle.std.specs.Prelude.{codes, int_lt, T, neg_ℤ}
use Rattle.std.specs.Fmt.{decimal, signed_decimal}
use Rattle.std.specs.List.{AllByRecursion}
use Rattle.std.specs.Str.{bytes_eq}
use Rattle.std.proofs.lemmas.Bool.{eqb-true, eq-eqb}
use Rattle.std.proofs.lemmas.Float.{T_from_true}
use Rattle.std.proofs.lemmas.Int.{ints}
use Rattle.std.proofs.lemmas.List.{take_at, drop_at, take-append-drop, length-append, length-take-le, length-drop, length-map}
use Rattle.std.proofs.lemmas.List.Elements.{recursion_from_All, All-from_recursion}
use Rattle.xt_model.specs.declared.table.Table.{Table}
use Rattle.xt_model.specs.Limits.{most_in_table}
use Rattle.xt_model.specs.Tables.{IsTableNumber, IsRising, IsIndex, IsTable}
use Rattle.text_lines.specs.Lines.{Line, line_text, text_of}
use Rattle.linked_text.specs.Linked.{numbers_line, row_lines, table_lines}
use Rattle.linked_text.specs.Fields.{in_table, rises_from, is_rising}
use Rattle.linked_text.specs.Fits.{IsSmaller}
use Rattle.linked_text.specs.EachLine.{sizes_in, fields_after, row_in, index_in}
use Rattle.linked_text.specs.Meaning.{line_at, rows_at, table_at}
use Rattle.linked_text.proofs.Options.{both_true, passed}
use Rattle.linked_text.proofs.Inversions.{ok_step, ok_is, worded_ok, numbered_ok, word_ok, holds_ok, is_word, same_word, three_is}
use Rattle.linked_text.proofs.NumberLaws.{Clear, clear_count, clear_signed, clear_each, each_takes, each_again, size_takes, size_again, between_takes, between_again}
use Rattle.linked_text.proofs.LineLaws.{IsPlain, IsLine, IsRead, line_read}

-- ---- sizes

pub record FitsSizes (s : ℕ × ℕ) : Type 0 where
  pub some_rows : 1 ≤ s.0
  pub most_rows : s.0 ≤ 64
  pub some_columns : 1 ≤ s.1
  pub most_columns : s.1 ≤ 64

abbrev pub sizes_line : ℕ × ℕ → Line
sizes_line s = codes "table" ∷ decimal s.0 ∷ decimal s.1 ∷ []

sizes_takes : (l : Line) (s : ℕ × ℕ) → sizes_in l ≡ Ok s → (l ≡ sizes_line s) × FitsSizes s
unfolding sizes_in
sizes_takes l s e =
    let f = ok_step e in
    let w = ok_step f.2 in
    let r = ok_step w.2 in
    let c = ok_step r.2 in
    let word : f.0.0 ≡ codes "table" = is_word _ _ (word_ok w.1) in
    let rows = size_takes f.0.1 r.0 (numbered_ok r.1) in
    let columns = size_takes f.0.2 c.0 (numbered_ok c.1) in
    let line : l ≡ sizes_line (r.0, c.0) = three_is l f.0 (worded_ok f.1) ∙ ap (λ (g : List ℕ). g ∷ f.0.1 ∷ f.0.2 ∷ []) word ∙ ap (λ (g : List ℕ). codes "table" ∷ g ∷ f.0.2 ∷ []) rows.0 ∙ ap (λ (g : List ℕ). codes "table" ∷ decimal r.0 ∷ g ∷ []) columns.0 in
    let fits : FitsSizes (r.0, c.0) = record { some_rows = rows.1; most_rows = rows.2; some_columns = columns.1; most_columns = columns.2 } in
    subst (λ (x : ℕ × ℕ). (l ≡ sizes_line x) × FitsSizes x) (ok_is (r.0, c.0) s c.2) (line, fits)

sizes_again : (s : ℕ × ℕ) → FitsSizes s → sizes_in (sizes_line s) ≡ Ok s
unfolding sizes_in
sizes_again s h = rw (size_again s.0 h.some_rows h.most_rows, size_again s.1 h.some_columns h.most_columns) refl

pub sizes : IsLine sizes_in sizes_line FitsSizes
sizes = record {
  takes = sizes_takes;
  again = sizes_again;
  plain = λ s h. ((refl, (refl, (refl, (refl, (refl, tt))))), (clear_count s.0 (omega (arith, h.most_rows)), (clear_count s.1 (omega (arith, h.most_columns)), tt)));
}

-- ---- a word and numbers

number_takes : (f : List ℕ) (x : ℤ) → in_table f ≡ Some x → (f ≡ signed_decimal x) × IsTableNumber x
number_takes f x e = let t = between_takes (neg_ℤ most_in_table) most_in_table f x e in (t.0, record { low = t.1; high = t.2 })

small : (x : ℤ) → IsTableNumber x → IsSmaller (2 ^ 127) x
small x h = record { low = omega (arith, ints, h.low); high = omega (arith, ints, h.high) }

number_again : (x : ℤ) → IsTableNumber x → in_table (signed_decimal x) ≡ Some x
number_again x h = between_again (neg_ℤ most_in_table) most_in_table x (small x h) h.low h.high

after_takes : (word : List ℕ) (n : ℕ) (l fs : Line) → fields_after word n l ≡ Some fs → (l ≡ word ∷ fs) × (length fs ≡ n)
after_takes word n [] fs e = absurd cc
after_takes word n (w ∷ gs) fs e =
    let g = passed (bytes_eq w word && eqb (length gs) n) gs fs e in
    let b = both_true (bytes_eq w word) (eqb (length gs) n) g.0 in
    (ap (λ (v : List ℕ). v ∷ gs) (is_word w word b.0) ∙ ap (λ (xs : Line). word ∷ xs) g.1, ap length (sym g.1) ∙ eqb-true _ _ b.1)

after_again : (word : List ℕ) (fs : Line) → fields_after word (length fs) (word ∷ fs) ≡ Some fs
after_again word fs = rw (same_word word, eq-eqb (length fs) (length fs) refl) refl

pub record FitsRow (n : ℕ) (xs : List ℤ) : Type 0 where
  pub count : length xs ≡ n
  pub numbers : AllByRecursion IsTableNumber xs

pub row_takes : (word : List ℕ) (n : ℕ) (l : Line) (xs : List ℤ) → row_in word n l ≡ Ok xs → (l ≡ numbers_line word xs) × FitsRow n xs
unfolding row_in
row_takes word n l xs e =
    let f = ok_step e in
    let a = after_takes word n l f.0 (worded_ok f.1) in
    let t = each_takes in_table signed_decimal IsTableNumber number_takes f.0 xs (numbered_ok f.2) in
    (a.0 ∙ ap (λ (gs : Line). word ∷ gs) t.0, record { count = t.1 ∙ a.1; numbers = t.2 })

pub row_again : (word : List ℕ) (n : ℕ) (xs : List ℤ) → FitsRow n xs → row_in word n (numbers_line word xs) ≡ Ok xs
unfolding row_in
row_again word n xs h =
    let count : length (map signed_decimal xs) ≡ n = length-map xs signed_decimal ∙ h.count in
    let after : fields_after word n (word ∷ map signed_decimal xs) ≡ Some (map signed_decimal xs) = subst (λ (m : ℕ). fields_after word m (word ∷ map signed_decimal xs) ≡ Some (map signed_decimal xs)) count (after_again word (map signed_decimal xs)) in
    rw (after, each_again in_table signed_decimal IsTableNumber number_again xs h.numbers) refl

numbers_plain : (word : List ℕ) (n : ℕ) (xs : List ℤ) → Clear word → FitsRow n xs → IsPlain (numbers_line word xs)
numbers_plain word n xs c h = (c, clear_each signed_decimal IsTableNumber (λ x k. clear_signed x (small x k)) xs h.numbers)

rows : (n : ℕ) → IsLine (row_in (codes "row") n) (numbers_line (codes "row")) (FitsRow n)
rows n = record {
  takes = row_takes (codes "row") n;
  again = row_again (codes "row") n;
  plain = λ xs h. numbers_plain (codes "row") n xs (refl, (refl, (refl, tt))) h;
}

-- ---- rising order

true_from : (b : Bool) → T b → b ≡ true
true_from true t = refl
true_from false t = absurd t

below_from : (x y : ℤ) → int_lt x y ≡ true → x <ℤ y
below_from x y e = record { lt = T_from_true (int_lt x y) e }

from_below : (x y : ℤ) → x <ℤ y → int_lt x y ≡ true
from_below x y h = true_from (int_lt x y) h.lt

all_above : (last : ℤ) (xs : List ℤ) → rises_from last xs ≡ true → (j : ℕ) → j < length xs → last <ℤ get_or xs j (pos 0)
all_above last [] e j lt = absurd (omega (arith, lt))
all_above last (x ∷ xs) e zero lt = below_from last x (both_true (int_lt last x) (rises_from x xs) e).0
all_above last (x ∷ xs) e (suc j) lt =
    let b = both_true (int_lt last x) (rises_from x xs) e in
    let one : last <ℤ x = below_from last x b.0 in
    let two : x <ℤ get_or xs j (pos 0) = all_above x xs b.1 j (omega (arith, lt)) in
    omega (arith, ints, one, two)

rising_rest : (x : ℤ) (xs : List ℤ) → rises_from x xs ≡ true → is_rising xs ≡ true
rising_rest x [] e = refl
rising_rest x (y ∷ ys) e = (both_true (int_lt x y) (rises_from y ys) e).1

in_order : (xs : List ℤ) → is_rising xs ≡ true → (i j : ℕ) → i < j → j < length xs → get_or xs i (pos 0) <ℤ get_or xs j (pos 0)
in_order [] e i j lt within = absurd (omega (arith, within))
in_order (x ∷ xs) e i zero lt within = absurd (omega (arith, lt))
in_order (x ∷ xs) e zero (suc j) lt within = all_above x xs e j (omega (arith, within))
in_order (x ∷ xs) e (suc i) (suc j) lt within = in_order xs (rising_rest x xs e) i j (omega (arith, lt)) (omega (arith, within))

rising_sound : (xs : List ℤ) → is_rising xs ≡ true → IsRising xs
rising_sound xs e = record { each = in_order xs e }

rises_tested : (last : ℤ) (xs : List ℤ) → IsRising (last ∷ xs) → rises_from last xs ≡ true
rises_tested last [] h = refl
rises_tested last (x ∷ xs) h =
    let one : int_lt last x ≡ true = from_below last x (h.each 0 1 (omega arith) (omega arith)) in
    let more : rises_from x xs ≡ true = rises_tested x xs (record { each = λ i j lt within. h.each (suc i) (suc j) (omega (arith, lt)) (omega (arith, within)) }) in
    rw (one, more) refl

rising_tested : (xs : List ℤ) → IsRising xs → is_rising xs ≡ true
rising_tested [] h = refl
rising_tested (x ∷ xs) h = rises_tested x xs h

-- ---- slews and loads

pub record FitsIndex (n : ℕ) (xs : List ℤ) : Type 0 where
  pub row : FitsRow n xs
  pub rising : is_rising xs ≡ true

pub index_takes : (word : List ℕ) (n : ℕ) (l : Line) (xs : List ℤ) → index_in word n l ≡ Ok xs → (l ≡ numbers_line word xs) × FitsIndex n xs
unfolding index_in
index_takes word n l xs e =
    let a = ok_step e in
    let b = ok_step a.2 in
    let t = row_takes word n l a.0 a.1 in
    let fits : FitsIndex n a.0 = record { row = t.1; rising = holds_ok b.1 } in
    subst (λ (ys : List ℤ). (l ≡ numbers_line word ys) × FitsIndex n ys) (ok_is a.0 xs b.2) (t.0, fits)

pub index_again : (word : List ℕ) (n : ℕ) (xs : List ℤ) → FitsIndex n xs → index_in word n (numbers_line word xs) ≡ Ok xs
unfolding index_in
index_again word n xs h = rw (row_again word n xs h.row, h.rising) refl

slews : (n : ℕ) → IsLine (index_in (codes "slews") n) (numbers_line (codes "slews")) (FitsIndex n)
slews n = record {
  takes = index_takes (codes "slews") n;
  again = index_again (codes "slews") n;
  plain = λ xs h. numbers_plain (codes "slews") n xs (refl, (refl, (refl, (refl, (refl, tt))))) h.row;
}

loads : (n : ℕ) → IsLine (index_in (codes "loads") n) (numbers_line (codes "loads")) (FitsIndex n)
loads n = record {
  takes = index_takes (codes "loads") n;
  again = index_again (codes "loads") n;
  plain = λ xs h. numbers_plain (codes "loads") n xs (refl, (refl, (refl, (refl, (refl, tt))))) h.row;
}

index_sound : (n : ℕ) (xs : List ℤ) → 1 ≤ n → n ≤ 64 → FitsIndex n xs → IsIndex xs
index_sound n xs some most h = record {
  some = omega (arith, some, h.row.count);
  most = omega (arith, most, h.row.count);
  rising = rising_sound xs h.rising;
  numbers = All-from_recursion IsTableNumber xs h.row.numbers;
}

index_fits : (xs : List ℤ) → IsIndex xs → FitsIndex (length xs) xs
index_fits xs h = record { row = record { count = refl; numbers = recursion_from_All IsTableNumber xs h.numbers }; rising = rising_tested xs h.rising }

-- ---- the rows

all_join : (xs ys : List ℤ) → AllByRecursion IsTableNumber xs → AllByRecursion IsTableNumber ys → AllByRecursion IsTableNumber (xs ++ ys)
all_join [] ys h k = k
all_join (x ∷ xs) ys h k = (h.0, all_join xs ys h.1 k)

all_take : (n : ℕ) (xs : List ℤ) → AllByRecursion IsTableNumber xs → AllByRecursion IsTableNumber (take n xs)
all_take zero xs h = tt
all_take (suc n) [] h = tt
all_take (suc n) (x ∷ xs) h = (h.0, all_take n xs h.1)

all_drop : (n : ℕ) (xs : List ℤ) → AllByRecursion IsTableNumber xs → AllByRecursion IsTableNumber (drop n xs)
all_drop zero xs h = h
all_drop (suc n) [] h = tt
all_drop (suc n) (x ∷ xs) h = all_drop n xs h.1

abbrev row_text : List ℤ → List ℕ
row_text xs = line_text (numbers_line (codes "row") xs)

rows_takes : (count columns : ℕ) (bytes : List ℕ) (xs : List ℤ) (rest : List ℕ) → rows_at count columns bytes ≡ Ok (xs, rest) → (bytes ≡ text_of (row_lines count columns xs) ++ rest) × (length xs ≡ count * columns) × AllByRecursion IsTableNumber xs
rows_takes zero columns bytes xs rest e =
    subst (λ (y : List ℤ × List ℕ). (bytes ≡ y.1) × (length y.0 ≡ 0 * columns) × AllByRecursion IsTableNumber y.0) (ok_is ([], bytes) (xs, rest) e) (refl, omega arith, tt)
rows_takes (suc count) columns bytes xs rest e =
    let a = ok_step e in
    let b = ok_step a.2 in
    let one = (line_read (row_in (codes "row") columns) (numbers_line (codes "row")) (FitsRow columns) (rows columns)).takes bytes a.0.0 a.0.1 a.1 in
    let more = rows_takes count columns a.0.1 b.0.0 b.0.1 b.1 in
    let front : take columns (a.0.0 ++ b.0.0) ≡ a.0.0 = take_at a.0.0 b.0.0 columns one.1.count in
    let back : drop columns (a.0.0 ++ b.0.0) ≡ b.0.0 = drop_at a.0.0 b.0.0 columns one.1.count in
    let lines : text_of (row_lines (suc count) columns (a.0.0 ++ b.0.0)) ≡ row_text a.0.0 ++ text_of (row_lines count columns b.0.0) = ap (λ (ys : List ℤ). row_text ys ++ text_of (row_lines count columns (drop columns (a.0.0 ++ b.0.0)))) front ∙ ap (λ (ys : List ℤ). row_text a.0.0 ++ text_of (row_lines count columns ys)) back in
    let text : bytes ≡ text_of (row_lines (suc count) columns (a.0.0 ++ b.0.0)) ++ b.0.1 = one.0 ∙ ap (λ (t : List ℕ). row_text a.0.0 ++ t) more.0 ∙ sym (append_assoc (row_text a.0.0) (text_of (row_lines count columns b.0.0)) b.0.1) ∙ ap (λ (t : List ℕ). t ++ b.0.1) (sym lines) in
    let len : length (a.0.0 ++ b.0.0) ≡ suc count * columns = omega (arith, length-append a.0.0 b.0.0, one.1.count, more.1, suc-mul count columns) in
    subst (λ (y : List ℤ × List ℕ). (bytes ≡ text_of (row_lines (suc count) columns y.0) ++ y.1) × (length y.0 ≡ suc count * columns) × AllByRecursion IsTableNumber y.0) (ok_is (a.0.0 ++ b.0.0, b.0.1) (xs, rest) b.2)
    (text, len, all_join a.0.0 b.0.0 one.1.numbers more.2)

rows_again : (count columns : ℕ) (xs : List ℤ) (rest : List ℕ) → length xs ≡ count * columns → AllByRecursion IsTableNumber xs → rows_at count columns (text_of (row_lines count columns xs) ++ rest) ≡ Ok (xs, rest)
rows_again zero columns [] rest len h = refl
rows_again zero columns (x ∷ xs) rest len h = absurd (omega (arith, len))
rows_again (suc count) columns xs rest len h =
    let enough : columns ≤ length xs = omega (arith, len, suc-mul count columns) in
    let first : List ℤ = take columns xs in
    let others : List ℤ = drop columns xs in
    let fits : FitsRow columns first = record { count = length-take-le columns xs enough; numbers = all_take columns xs h } in
    let one = (line_read (row_in (codes "row") columns) (numbers_line (codes "row")) (FitsRow columns) (rows columns)).again first (text_of (row_lines count columns others) ++ rest) fits in
    let more = rows_again count columns others rest (omega (arith, length-drop columns xs, len, suc-mul count columns)) (all_drop columns xs h) in
    ap (rows_at (suc count) columns) (append_assoc (row_text first) (text_of (row_lines count columns others)) rest) ∙ rw (one, more) (ap (λ (ys : List ℤ). Ok (ys, rest)) (take-append-drop columns xs))

-- ---- tables

sizes_read : IsRead (line_at sizes_in) (λ s. line_text (sizes_line s)) FitsSizes
sizes_read = line_read sizes_in sizes_line FitsSizes sizes

slews_read : (n : ℕ) → IsRead (line_at (index_in (codes "slews") n)) (λ xs. line_text (numbers_line (codes "slews") xs)) (FitsIndex n)
slews_read n = line_read (index_in (codes "slews") n) (numbers_line (codes "slews")) (FitsIndex n) (slews n)

loads_read : (n : ℕ) → IsRead (line_at (index_in (codes "loads") n)) (λ xs. line_text (numbers_line (codes "loads") xs)) (FitsIndex n)
loads_read n = line_read (index_in (codes "loads") n) (numbers_line (codes "loads")) (FitsIndex n) (loads n)

-- what was read up to the values makes a table
pub made_table : (b0 b1 b2 b3 b4 : List ℕ) (count columns : ℕ) (ss ls values : List ℤ)
    → line_at sizes_in b0 ≡ Ok ((count, columns), b1)
    → line_at (index_in (codes "slews") count) b1 ≡ Ok (ss, b2) → line_at (index_in (codes "loads") columns) b2 ≡ Ok (ls, b3)
    → rows_at count columns b3 ≡ Ok (values, b4) → IsTable (record { slews = ss; loads = ls; values = values })
made_table b0 b1 b2 b3 b4 count columns ss ls values e1 e2 e3 e4 =
    let n = sizes_read.takes b0 (count, columns) b1 e1 in
    let s = (slews_read count).takes b1 ss b2 e2 in
    let l = (loads_read columns).takes b2 ls b3 e3 in
    let v = rows_takes count columns b3 values b4 e4 in
    record {
      slews = index_sound count ss n.1.some_rows n.1.most_rows s.1;
      loads = index_sound columns ls n.1.some_columns n.1.most_columns l.1;
      count = v.1 ∙ ap (λ (k : ℕ). k * columns) (sym s.1.row.count) ∙ ap (λ (k : ℕ). length ss * k) (sym l.1.row.count);
      values = All-from_recursion IsTableNumber values v.2;
    }

abbrev table_text : Table → List ℕ
table_text t = text_of (table_lines t)

table_whole : (t : Table) (rest : List ℕ) → table_text t ++ rest ≡ line_text (sizes_line (length t.slews, length t.loads)) ++ (line_text (numbers_line (codes "slews") t.slews) ++ (line_text (numbers_line (codes "loads") t.loads) ++ (text_of (row_lines (length t.slews) (length t.loads) t.values) ++ rest)))
table_whole t rest = simp append_assoc

table_takes : (bytes : List ℕ) (t : Table) (rest : List ℕ) → table_at bytes ≡ Ok (t, rest) → (bytes ≡ table_text t ++ rest) × IsTable t
unfolding table_at
table_takes bytes t rest e =
    let a = ok_step e in
    let b = ok_step a.2 in
    let c = ok_step b.2 in
    let d = ok_step c.2 in
    let n = sizes_read.takes bytes a.0.0 a.0.1 a.1 in
    let s = (slews_read a.0.0.0).takes a.0.1 b.0.0 b.0.1 b.1 in
    let l = (loads_read a.0.0.1).takes b.0.1 c.0.0 c.0.1 c.1 in
    let v = rows_takes a.0.0.0 a.0.0.1 c.0.1 d.0.0 d.0.1 d.1 in
    let made : Table = record { slews = b.0.0; loads = c.0.0; values = d.0.0 } in
    let P : ℕ → ℕ → Type 0 = λ i j. bytes ≡ line_text (sizes_line (i, j)) ++ (line_text (numbers_line (codes "slews") b.0.0) ++ (line_text (numbers_line (codes "loads") c.0.0) ++ (text_of (row_lines i j d.0.0) ++ d.0.1))) in
    let text : P a.0.0.0 a.0.0.1 = n.0 ∙ ap (λ (t : List ℕ). line_text (sizes_line a.0.0) ++ t) (s.0 ∙ ap (λ (t : List ℕ). line_text (numbers_line (codes "slews") b.0.0) ++ t) (l.0 ∙ ap (λ (t : List ℕ). line_text (numbers_line (codes "loads") c.0.0) ++ t) v.0)) in
    let text2 : P (length b.0.0) (length c.0.0) = subst (λ (i : ℕ). P i (length c.0.0)) (sym s.1.row.count) (subst (λ (j : ℕ). P a.0.0.0 j) (sym l.1.row.count) text) in
    subst (λ (x : Table × List ℕ). (bytes ≡ table_text x.0 ++ x.1) × IsTable x.0) (ok_is (made, d.0.1) (t, rest) d.2)
    (text2 ∙ sym (table_whole made d.0.1), made_table bytes a.0.1 b.0.1 c.0.1 d.0.1 a.0.0.0 a.0.0.1 b.0.0 c.0.0 d.0.0 a.1 b.1 c.1 d.1)

table_again : (t : Table) (rest : List ℕ) → IsTable t → table_at (table_text t ++ rest) ≡ Ok (t, rest)
unfolding table_at
table_again t rest h =
    let rows : List ℕ = text_of (row_lines (length t.slews) (length t.loads) t.values) ++ rest in
    let loads : List ℕ = line_text (numbers_line (codes "loads") t.loads) ++ rows in
    let slews : List ℕ = line_text (numbers_line (codes "slews") t.slews) ++ loads in
    let fits : FitsSizes (length t.slews, length t.loads) = record { some_rows = h.slews.some; most_rows = h.slews.most; some_columns = h.loads.some; most_columns = h.loads.most } in
    ap table_at (table_whole t rest) ∙ rw (
      sizes_read.again (length t.slews, length t.loads) slews fits,
      (slews_read (length t.slews)).again t.slews loads (index_fits t.slews h.slews),
      (loads_read (length t.loads)).again t.loads rows (index_fits t.loads h.loads),
      rows_again (length t.slews) (length t.loads) t.values rest h.count (recursion_from_All IsTableNumber t.values h.values),
    ) refl

pub tables_read : IsRead table_at table_text IsTable
tables_read = record { takes = table_takes; again = table_again }
