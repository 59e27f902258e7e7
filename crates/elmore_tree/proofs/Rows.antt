-- The resistors at each node, and the node across one of them.
use Rattle.std.proofs.Common.{◌≡◌, ◌≢◌, ℕ, zero, suc, ◌+◌, ◌<◌, ◌≤◌, Bool, true, false, cond, eqb, ◌||◌, List, [], ◌∷◌, ◌++◌, length, take, get_or, set, Some, refl, sym, ap, ◌∙◌, subst, arith, inl, inr, ◌⊎◌}
use Rattle.std.specs.List.{slice_get}
use Rattle.std.proofs.lemmas.Bool.{cases_lt, cases_eq, or_left, or_right, or_cases, cases_Bool}
use Rattle.std.proofs.lemmas.List.{get_or_read, get_or-set_same, get_or-set_other, get_or_append_left, length-set}
use Rattle.std.proofs.lemmas.List.Folds.{list_any_more, list_any_at}
use Rattle.std.proofs.lemmas.Option.{slice_get_past, slice_get-get_or}
use Rattle.elmore_tree.specs.declared.part.Resistor.{Resistor}
use Rattle.elmore_tree.specs.Trees.{TreeParts, IsSoundResistor, IsSoundTree}
use Rattle.elmore_tree.specs.Paths.{Joins, is_on}
use Rattle.elmore_tree.specs.Walks.{Touches, row_of, AreRows, AreRowsOf}
use Rattle.elmore_tree.proofs.Bools.{not_both, eqb_same, eqb_is, any_push}

pub on_push : (xs : List ℕ) (n j : ℕ) → is_on (xs ++ n ∷ []) j ≡ (is_on xs j || eqb n j)
on_push xs n j = any_push (λ i. eqb i j) xs n

-- no row has anything in it yet
pub no_rows : (rows : List (List ℕ)) → ((k : ℕ) → row_of rows k ≡ []) → (k : ℕ) → row_of (rows ++ [] ∷ []) k ≡ []
no_rows rows none k =
    elim (cases_lt k (length rows)) [
      | inl lt ↦ get_or_append_left rows ([] ∷ []) [] k lt ∙ none k
      | inr past ↦ at_end rows k past
    ]
  where
    at_end : (xs : List (List ℕ)) (i : ℕ) → length xs ≤ i → get_or (xs ++ [] ∷ []) i [] ≡ []
    at_end [] zero h = refl
    at_end [] (suc i) h = refl
    at_end (x ∷ xs) zero h = absurd (omega arith)
    at_end (x ∷ xs) (suc i) h = at_end xs i (omega arith)

pub rows_begin : (t : TreeParts) (rows : List (List ℕ)) → length rows ≡ t.nodes → ((k : ℕ) → row_of rows k ≡ []) → AreRowsOf t 0 rows
rows_begin t rows count none = record {
  count = count;
  touch = λ j k h. not_both (is_on (row_of rows k) j) h (ap (λ xs. is_on xs j) (none k));
  all = λ j k h. absurd (omega arith);
}

-- the rows with one more number at a node
abbrev pub added : List (List ℕ) → ℕ → ℕ → List (List ℕ)
added rows k n = set rows k (row_of rows k ++ n ∷ [])

added_there : (rows : List (List ℕ)) (k n j : ℕ) → k < length rows → is_on (row_of (added rows k n) k) j ≡ (is_on (row_of rows k) j || eqb n j)
added_there rows k n j lt = ap (λ xs. is_on xs j) (get_or-set_same rows k (row_of rows k ++ n ∷ []) [] lt) ∙ on_push (row_of rows k) n j

added_elsewhere : (rows : List (List ℕ)) (k n i j : ℕ) → i ≢ k → is_on (row_of (added rows k n) i) j ≡ is_on (row_of rows i) j
added_elsewhere rows k n i j ne = ap (λ xs. is_on xs j) (get_or-set_other rows k i (row_of rows k ++ n ∷ []) [] ne)

added_keeps : (rows : List (List ℕ)) (k n i j : ℕ) → k < length rows → is_on (row_of rows i) j ≡ true → is_on (row_of (added rows k n) i) j ≡ true
added_keeps rows k n i j lt h =
    elim (cases_eq i k) [
      | inl e ↦ rw e (added_there rows k n j lt ∙ or_left (is_on (row_of rows k) j) (eqb n j) (rw e at h))
      | inr ne ↦ added_elsewhere rows k n i j ne ∙ h
    ]

added_has : (rows : List (List ℕ)) (k n : ℕ) → k < length rows → is_on (row_of (added rows k n) k) n ≡ true
added_has rows k n lt = added_there rows k n n lt ∙ or_right (is_on (row_of rows k) n) (eqb n n) (eqb_same n)

added_touch : (t : TreeParts) (rows : List (List ℕ)) (k n : ℕ) → k < length rows → Touches t.resistors n k
    → ((j i : ℕ) → is_on (row_of rows i) j ≡ true → Touches t.resistors j i) → (j i : ℕ) → is_on (row_of (added rows k n) i) j ≡ true → Touches t.resistors j i
added_touch t rows k n lt here touch j i h =
    elim (cases_eq i k) [
      | inl e ↦
          let at_k : is_on (row_of (added rows k n) k) j ≡ true = rw e at h in
          elim (or_cases (is_on (row_of rows k) j) (eqb n j) (sym (added_there rows k n j lt) ∙ at_k)) [
            | inl old ↦ rw e (touch j k old)
            | inr new ↦ let P : ℕ → Type 0 = λ m. Touches t.resistors m k in rw e (subst P (eqb_is n j new) here)
          ]
      | inr ne ↦ touch j i (sym (added_elsewhere rows k n i j ne) ∙ h)
    ]

touches_at : (t : TreeParts) (n : ℕ) (r : Resistor) (k : ℕ) → slice_get t.resistors n ≡ Some r → ((r.a ≡ k) ⊎ (r.b ≡ k)) → Touches t.resistors n k
touches_at t n r k at h = rw at h

touched_at : (t : TreeParts) (n : ℕ) (r : Resistor) (k : ℕ) → slice_get t.resistors n ≡ Some r → Touches t.resistors n k → (r.a ≡ k) ⊎ (r.b ≡ k)
touched_at t n r k at h = rw at at h

-- one more resistor stands at its two nodes
pub rows_turn : (t : TreeParts) (rows : List (List ℕ)) (n : ℕ) (r : Resistor) → slice_get t.resistors n ≡ Some r → r.a < t.nodes → r.b < t.nodes
    → AreRowsOf t n rows → AreRowsOf t (n + 1) (added (added rows r.a n) r.b n)
rows_turn t rows n r at a_in b_in w =
    let counts : length rows ≡ t.nodes = w.count in
    let once : length (added rows r.a n) ≡ length rows = length-set rows r.a (row_of rows r.a ++ n ∷ []) in
    let twice : length (added (added rows r.a n) r.b n) ≡ length (added rows r.a n) = length-set (added rows r.a n) r.b (row_of (added rows r.a n) r.b ++ n ∷ []) in
    let first = added_touch t rows r.a n (omega arith) (touches_at t n r r.a at (inl refl)) w.touch in
    record {
      count = omega arith;
      touch = added_touch t (added rows r.a n) r.b n (omega arith) (touches_at t n r r.b at (inr refl)) first;
      all = λ j k lt h. elim (cases_eq j n) [
        | inl e ↦
            let here : Touches t.resistors n k = rw e at h in
            elim (touched_at t n r k at here) [
              | inl is_a ↦ rw (e, ← is_a) (added_keeps (added rows r.a n) r.b n r.a n (omega arith) (added_has rows r.a n (omega arith)))
              | inr is_b ↦ rw (e, ← is_b) (added_has (added rows r.a n) r.b n (omega arith))
            ]
        | inr ne ↦ added_keeps (added rows r.a n) r.b n k j (omega arith) (added_keeps rows r.a n k j (omega arith) (w.all j k (omega arith) h))
      ];
    }

pub touched_within : (t : TreeParts) (j k : ℕ) → Touches t.resistors j k → j < length t.resistors
touched_within t j k h = elim (cases_lt j (length t.resistors)) [ inl lt ↦ lt | inr out ↦ absurd (rw (slice_get_past t.resistors j out) at h) ]

pub rows_end : (t : TreeParts) (rows : List (List ℕ)) (n : ℕ) → length t.resistors ≤ n → AreRowsOf t n rows → AreRows t rows
rows_end t rows n past w = record {
  count = w.count;
  touch = w.touch;
  all = λ j k h. w.all j k (let lt : j < length t.resistors = touched_within t j k h in omega arith) h;
}

pub rows_turn_at : (t : TreeParts) (items : List Resistor) (rows mid out : List (List ℕ)) (n : ℕ) (d : Resistor) → items ≡ t.resistors → n < length items → IsSoundTree t
    → mid ≡ added rows (get_or items n d).a n → out ≡ added mid (get_or items n d).b n → AreRowsOf t n rows → AreRowsOf t (n + 1) out
rows_turn_at t items rows mid out n d e lt sound is_mid is_out w =
    let there : n < length t.resistors = rw (← e) lt in
    let same : get_or items n d ≡ get_or t.resistors n d = ap (λ xs. get_or xs n d) e in
    let at = slice_get-get_or t.resistors n d there in
    let fine : IsSoundResistor t.nodes (get_or t.resistors n d) = sound.resistors n d there in
    rw (is_out, is_mid, same) (rows_turn t rows n (get_or t.resistors n d) at fine.a fine.b w)

pub is_on_at : (xs : List ℕ) (i : ℕ) → i < length xs → is_on xs (get_or xs i 0) ≡ true
is_on_at xs i lt = list_any_at (λ m. eqb m (get_or xs i 0)) xs i 0 lt (eqb_same (get_or xs i 0))

pub is_on_more : (xs : List ℕ) (i j : ℕ) → i < length xs → is_on (take (i + 1) xs) j ≡ (is_on (take i xs) j || eqb (get_or xs i 0) j)
is_on_more xs i j lt = list_any_more (λ m. eqb m j) xs i 0 lt

-- ---- the node across
pub across_joins : (t : TreeParts) (j : ℕ) (r : Resistor) (node : ℕ) → slice_get t.resistors j ≡ Some r → Touches t.resistors j node
    → Joins t.resistors j node (cond (eqb r.a node) r.b r.a)
across_joins t j r node at h =
    elim (cases_Bool (eqb r.a node)) [
      | inl same ↦ rw (at, same) (inl (eqb_is r.a node same, refl))
      | inr differs ↦ elim (touched_at t j r node at h) [
        | inl is_a ↦ not_both (eqb r.a node) (rw is_a (eqb_same node)) differs
        | inr is_b ↦ rw (at, differs) (inr (refl, is_b))
      ]
    ]

pub across_is : (t : TreeParts) (j : ℕ) (r : Resistor) (node b : ℕ) → slice_get t.resistors j ≡ Some r → Joins t.resistors j node b → cond (eqb r.a node) r.b r.a ≡ b
across_is t j r node b at h =
    let ends : ((r.a ≡ node) × (r.b ≡ b)) ⊎ ((r.a ≡ b) × (r.b ≡ node)) = rw at at h in
    elim ends [
      | inl w ↦ rw w.0 (rw (eqb_same node) w.1)
      | inr w ↦ elim (cases_Bool (eqb r.a node)) [
        | inl same ↦ rw same (w.1 ∙ (sym (eqb_is r.a node same) ∙ w.0))
        | inr differs ↦ rw differs w.0
      ]
    ]

pub across_joins_at : (t : TreeParts) (items : List Resistor) (j : ℕ) (d : Resistor) (node to : ℕ) → items ≡ t.resistors → Touches t.resistors j node
    → to ≡ cond (eqb (get_or items j d).a node) (get_or items j d).b (get_or items j d).a → Joins t.resistors j node to
across_joins_at t items j d node to e h is =
    let same : get_or items j d ≡ get_or t.resistors j d = ap (λ xs. get_or xs j d) e in
    let at = slice_get-get_or t.resistors j d (touched_within t j node h) in
    rw (is, same) (across_joins t j (get_or t.resistors j d) node at h)

pub across_is_at : (t : TreeParts) (items : List Resistor) (j : ℕ) (d : Resistor) (node to b : ℕ) → items ≡ t.resistors → Touches t.resistors j node
    → to ≡ cond (eqb (get_or items j d).a node) (get_or items j d).b (get_or items j d).a → Joins t.resistors j node b → to ≡ b
across_is_at t items j d node to b e h is joins =
    let same : get_or items j d ≡ get_or t.resistors j d = ap (λ xs. get_or xs j d) e in
    let at = slice_get-get_or t.resistors j d (touched_within t j node h) in
    rw (is, same) (across_is t j (get_or t.resistors j d) node b at joins)

-- ---- what was read
pub unmarked_at : (xs : List Bool) (i : ℕ) (b : Bool) → b ≡ get_or xs i b → b ≡ false → get_or xs i false ≡ false
unmarked_at xs i b e h = sym (rw h at e)

pub row_read : (rows : List (List ℕ)) (k : ℕ) (row around : List ℕ) → k < length rows → row ≡ get_or rows k row → around ≡ row → around ≡ row_of rows k
row_read rows k row around lt e is = is ∙ get_or_read rows k row lt e []
