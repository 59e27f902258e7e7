-- The rows of readers, net by net.
use Rattle.std.proofs.Common.{◌≡◌, ◌≢◌, ℕ, zero, suc, ◌+◌, ◌<◌, ◌≤◌, ◌==◌, Bool, true, false, cond, ◌||◌, inl, inr, refl, sym, ap, subst, ◌∙◌, List, [], ◌∷◌, ◌++◌, length, map, take, set, get_or, filter, Contains, arith}
use Rattle.std.specs.List.{range_with_len}
use Rattle.std.proofs.lemmas.Bool.{cases_eq}
use Rattle.std.proofs.lemmas.Bool.Decides.{nat_tests}
use Rattle.std.proofs.lemmas.List.{map-set, map-append, take_more, get_or-set_same, get_or-set_other, get_or-map, length-map, get_or_default, append-nil}
use Rattle.std.proofs.lemmas.List.Elements.{filter-append}
use Rattle.xt_model.specs.declared.net.NetId.{NetId}
use Rattle.xt_model.specs.Parts.{Parts}
use Rattle.net_eval.specs.ReadLists.{ids, reads_of, AreReadLists}
use Rattle.chaos_core.specs.Tasks.{list_of}
use Rattle.chaos_core.specs.Views.{Rises}
use Rattle.chaos_core.proofs.Places.{id_at, ids_count}
use Rattle.dirty_words.specs.Views.{has}
use Rattle.dirty_words.specs.Readers.{row_of, HasReader}
use Rattle.dirty_words.proofs.Nets.{has_there}

-- ---- what a list has with one more
or_false : (b : Bool) → (b || false) ≡ b
or_false true = refl
or_false false = refl

or_more : (a b c : Bool) → (a || (b || c)) ≡ ((a || b) || c)
or_more true b c = refl
or_more false b c = refl

pub has_more : (xs : List ℕ) (y net : ℕ) → has (xs ++ y ∷ []) net ≡ (has xs net || (y == net))
has_more [] y net = or_false (y == net)
has_more (x ∷ xs) y net = ap (λ b. (x == net) || b) (has_more xs y net) ∙ or_more (x == net) (has xs net) (y == net)

same_test : (y net : ℕ) → y ≡ net → (y == net) ≡ true
same_test y net e = grind (arith, nat_tests)

other_test : (y net : ℕ) → y ≢ net → (y == net) ≡ false
other_test y net e = grind (arith, nat_tests)

or_true : (b : Bool) → (b || true) ≡ true
or_true true = refl
or_true false = refl

has_last : (xs : List ℕ) (y net : ℕ) → y ≡ net → has (xs ++ y ∷ []) net ≡ true
has_last xs y net e = has_more xs y net ∙ (ap (λ b. has xs net || b) (same_test y net e) ∙ or_true (has xs net))

has_same : (xs : List ℕ) (y net : ℕ) → y ≢ net → has (xs ++ y ∷ []) net ≡ has xs net
has_same xs y net ne = has_more xs y net ∙ (ap (λ b. has xs net || b) (other_test y net ne) ∙ or_false (has xs net))

has_not : (xs : List ℕ) (net : ℕ) → (Contains xs net → ⊥) → has xs net ≡ false
has_not xs net lacks = not_true (has xs net) (λ t. lacks (has_there xs net t)) where
  not_true : (b : Bool) → (b ≡ true → ⊥) → b ≡ false
  not_true true h = absurd (h refl)
  not_true false h = refl

-- numbers that rise have none of the first ones again
take_at : (xs : List ℕ) (j i d : ℕ) → i < j → get_or (take j xs) i d ≡ get_or xs i d
take_at [] zero i d h = absurd (omega (arith, h))
take_at [] (suc j) i d h = refl
take_at (x ∷ xs) zero i d h = absurd (omega (arith, h))
take_at (x ∷ xs) (suc j) zero d h = refl
take_at (x ∷ xs) (suc j) (suc i) d h = take_at xs j i d (omega (arith, h))

take_few : (xs : List ℕ) (j : ℕ) → length (take j xs) ≤ j
take_few xs zero = omega arith
take_few [] (suc j) = omega arith
take_few (x ∷ xs) (suc j) = let h = take_few xs j in omega (arith, h)

pub new_number : (reads : List ℕ) (j : ℕ) → Rises reads → j < length reads → Contains (take j reads) (get_or reads j 0) → ⊥
new_number reads j up inside c =
    let few = take_few reads j in
    let k = c.1 in
    let less : c.0 < j = omega (arith, few, k) in
    let at : get_or reads c.0 (get_or reads j 0) ≡ get_or reads j 0 = sym (take_at reads j c.0 (get_or reads j 0) less) ∙ c.2 in
    let low = up c.0 j less inside in
    let same : get_or reads c.0 (get_or reads j 0) ≡ get_or reads c.0 0 = get_or_default reads c.0 (get_or reads j 0) 0 (omega (arith, less, inside)) in
    omega (arith, at, low, same)

-- ---- one row gains a reader
pub row_here : (rows : List (List NetId)) (y : ℕ) (row : List NetId) → y < length rows → row_of (set rows y row) y ≡ ids row
row_here rows y row h = ap ids (get_or-set_same rows y row [] h)

pub row_else : (rows : List (List NetId)) (y net : ℕ) (row : List NetId) → net ≢ y → row_of (set rows y row) net ≡ row_of rows net
row_else rows y net row ne = ap ids (get_or-set_other rows y net row [] ne)

-- ---- one net of a read list
pub row_turn : (before rows later : List (List NetId)) (reader j y : ℕ) (reads : List ℕ) → Rises reads → j < length reads → y ≡ get_or reads j 0 → length rows ≡ length before
    → (y < length rows → row_of later y ≡ row_of rows y ++ reader ∷ []) → ((net : ℕ) → net < length rows → net ≢ y → row_of later net ≡ row_of rows net)
    → HasReader before rows reader (take j reads) → HasReader before later reader (take (j + 1) reads)
row_turn before rows later reader j y reads up inside is many own else h net there =
    let all : take (j + 1) reads ≡ take j reads ++ y ∷ [] = take_more reads j 0 inside ∙ ap (λ n. take j reads ++ n ∷ []) (sym is) in
    let P : List ℕ → Type 0 = λ xs. row_of later net ≡ row_of before net ++ cond (has xs net) (reader ∷ []) [] in
    let low : net < length rows = omega (arith, many, there) in
    subst P (sym all) (elim (cases_eq y net) [
      | inl e ↦
          let lacks : has (take j reads) net ≡ false = has_not (take j reads) net (λ c. new_number reads j up inside (subst (Contains (take j reads)) (sym e ∙ is) c)) in
          let was : row_of rows net ≡ row_of before net = h net there ∙ (ap (λ b. row_of before net ++ cond b (reader ∷ []) []) lacks ∙ append-nil (row_of before net)) in
          let now : row_of later net ≡ row_of rows net ++ reader ∷ [] = subst (λ n. row_of later n ≡ row_of rows n ++ reader ∷ []) e (own (subst (λ n. n < length rows) (sym e) low)) in
          now ∙ (ap (λ xs. xs ++ reader ∷ []) was ∙ ap (λ b. row_of before net ++ cond b (reader ∷ []) []) (sym (has_last (take j reads) y net e)))
      | inr ne ↦
          else net low (λ q. ne (sym q)) ∙ (h net there ∙ ap (λ b. row_of before net ++ cond b (reader ∷ []) []) (sym (has_same (take j reads) y net ne)))
    ])

pub none_yet : (rows : List (List NetId)) (reader : ℕ) → HasReader rows rows reader []
none_yet rows reader net there = sym (append-nil (row_of rows net))

-- ---- one reader
range_more : (a n j : ℕ) → a + n ≡ j → range_with_len a (suc n) ≡ range_with_len a n ++ j ∷ []
range_more a zero j e = ap (λ x. x ∷ []) (let k : a ≡ j = omega (arith, e) in k)
range_more a (suc n) j e = ap (λ xs. a ∷ xs) (range_more (a + 1) n j (omega (arith, e)))

pub range_next : (k : ℕ) → range_with_len 0 (k + 1) ≡ range_with_len 0 k ++ k ∷ []
range_next k =
    let s : k + 1 ≡ suc k = omega arith in
    subst (λ n. range_with_len 0 n ≡ range_with_len 0 k ++ k ∷ []) (sym s) (range_more 0 k k (omega arith))

pub reader_more : (lists : List (List NetId)) (k net : ℕ) (row : List ℕ) → row ≡ filter (λ r. has (list_of lists r) net) (range_with_len 0 k)
    → row ++ cond (has (list_of lists k) net) (k ∷ []) [] ≡ filter (λ r. has (list_of lists r) net) (range_with_len 0 (k + 1))
reader_more lists k net row e =
    let p : ℕ → Bool = λ r. has (list_of lists r) net in
    ap (λ xs. xs ++ cond (p k) (k ∷ []) []) e ∙ (sym (filter-append p (range_with_len 0 k) (k ∷ [])) ∙ ap (filter p) (sym (range_next k)))

-- ---- rows that are held in another form
module _ {V : Type 0} (f : V → List NetId) (before rows later : List V) (reader : NetId) (reads : List NetId) (j : ℕ) (many : length rows ≡ length before) (up : Rises (ids reads)) (inside : j < length reads) where
  abbrev none' : NetId
  none' = record { 0 = 0 }

  abbrev y' : ℕ
  y' = (get_or reads j none').0

  in_ids : j < length (ids reads)
  in_ids = let c = ids_count reads in let h = inside in omega (arith, c, h)

  y_is : y' ≡ get_or (ids reads) j 0
  y_is = sym (id_at reads j none' inside)

  counts : length (map f rows) ≡ length (map f before)
  counts = length-map rows f ∙ (many ∙ sym (length-map before f))

  pub turn_then : (d v : V) → y' < length rows → later ≡ set rows y' v → f v ≡ f (get_or rows y' d) ++ reader ∷ [] → HasReader (map f before) (map f rows) reader.0 (take j (ids reads))
      → HasReader (map f before) (map f later) reader.0 (take (j + 1) (ids reads))
  turn_then d v there is items h =
      let low : y' < length (map f rows) = let l = length-map rows f in omega (arith, l, there) in
      let set_is : map f later ≡ set (map f rows) y' (f v) = ap (map f) is ∙ map-set f rows y' v in
      let old : reads_of (map f rows) y' ≡ f (get_or rows y' d) = get_or-map f rows y' d [] there in
      let new : ids (f v) ≡ row_of (map f rows) y' ++ reader.0 ∷ [] =
      ap ids items ∙ (map-append (λ (n : NetId). n.0) (f (get_or rows y' d)) (reader ∷ []) ∙ ap (λ (ns : List NetId). ids ns ++ reader.0 ∷ []) (sym old)) in
      row_turn (map f before) (map f rows) (map f later) reader.0 j y' (ids reads) up in_ids y_is counts
      (λ _. ap (λ (rs : List (List NetId)). row_of rs y') set_is ∙ (row_here (map f rows) y' (f v) low ∙ new))
      (λ net lt ne. ap (λ (rs : List (List NetId)). row_of rs net) set_is ∙ row_else (map f rows) y' net (f v) ne)
      h

  pub turn_else : length rows ≤ y' → later ≡ rows → HasReader (map f before) (map f rows) reader.0 (take j (ids reads)) → HasReader (map f before) (map f later) reader.0 (take (j + 1) (ids reads))
  turn_else far is h =
      row_turn (map f before) (map f rows) (map f later) reader.0 j y' (ids reads) up in_ids y_is counts
      (λ low. absurd (let l = length-map rows f in omega (arith, l, low, far)))
      (λ net lt ne. ap (λ (rs : List V). row_of (map f rs) net) is)
      h

pub rows_more : {V : Type 0} (f : V → List NetId) (d : Parts) (lists : List (List NetId)) (old given new items : List V) (reads : List NetId) (reader k : ℕ) → AreReadLists d lists → k < length lists → length old ≡ length lists
    → given ≡ old → items ≡ new → reads ≡ reads_of lists reader → reader ≡ k → (Rises (ids reads) → HasReader (map f given) (map f new) reader (ids reads))
    → ((net : ℕ) → net < length lists → row_of (map f old) net ≡ filter (λ r. has (list_of lists r) net) (range_with_len 0 k))
    → (net : ℕ) → net < length lists → row_of (map f items) net ≡ filter (λ r. has (list_of lists r) net) (range_with_len 0 (k + 1))
rows_more {V} f d lists old given new items reads reader k are below many was back own is gains before net lt =
    let c = are.count in
    let list : ids reads ≡ list_of lists k = ap ids own ∙ ap (list_of lists) is in
    let rises : Rises (ids reads) = subst Rises (sym list) ((are.each k (omega (arith, c, below))).rising) in
    let long : length (map f given) ≡ length lists = length-map given f ∙ (ap length was ∙ many) in
    let step = gains rises net (omega (arith, long, lt)) in
    ap (λ (xs : List V). row_of (map f xs) net) back ∙ (step ∙ (ap (λ (xs : List V). row_of (map f xs) net ++ cond (has (ids reads) net) (reader ∷ []) []) was
    ∙ (ap (λ (xs : List ℕ). row_of (map f old) net ++ cond (has xs net) (reader ∷ []) []) list ∙ (ap (λ n. row_of (map f old) net ++ cond (has (list_of lists k) net) (n ∷ []) []) is
    ∙ reader_more lists k net (row_of (map f old) net) (before net lt)))))
