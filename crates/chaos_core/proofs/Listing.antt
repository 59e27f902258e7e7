-- For each net the nets whose coupling list has it: lists that grow net by net.
use Rattle.std.proofs.Common.{◌≡◌, ◌≢◌, ℕ, zero, suc, ◌+◌, ◌<◌, ◌≤◌, ◌⊎◌, inl, inr, refl, sym, ap, subst, ◌∙◌, List, [], ◌∷◌, ◌++◌, length, map, set, get_or, take, drop, arith}
use Rattle.std.specs.Prelude.{slice_index, Option, Some, None, IfSome}
use Rattle.std.specs.List.{All, Contains, slice_get}
use Rattle.std.proofs.lemmas.Bool.{cases_eq, cases_lt}
use Rattle.std.proofs.Math.Seq.{take-append_seam}
use Rattle.std.proofs.lemmas.List.{map-set, map-append, get_or-set_same, get_or-set_other, get_or-map, length-map}
use Rattle.std.proofs.lemmas.List.Elements.{Contains-append_cases, Contains-append_left, Contains-append_right, Contains-get_or}
use Rattle.std.proofs.lemmas.Option.{slice_get_past}
use Rattle.xt_model.specs.declared.net.Net.{Net}
use Rattle.xt_model.specs.declared.net.NetId.{NetId}
use Rattle.xt_model.specs.Parts.{Parts}
use Rattle.net_eval.specs.ReadLists.{ids, reads_of}
use Rattle.chaos_core.specs.Tasks.{list_of}
use Rattle.chaos_core.specs.TurnMarks.{AreListed, AreMore, HasListed}
use Rattle.chaos_core.proofs.Places.{id_at, ids_count}

-- ---- one net more in one list
module _ {V : Type 0} (f : V → List NetId) (rows later : List V) (t : ℕ) (own : NetId) (d v : V) (there : t < length rows) (is : later ≡ set rows t v) (items : f v ≡ f (get_or rows t d) ++ own ∷ []) where
  set_is : map f later ≡ set (map f rows) t (f v)
  set_is = ap (map f) is ∙ map-set f rows t v

  row_then : list_of (map f later) t ≡ list_of (map f rows) t ++ own.0 ∷ []
  row_then =
      let low : t < length (map f rows) = let l = length-map rows f in omega (arith, l, there) in
      let old : reads_of (map f rows) t ≡ f (get_or rows t d) = get_or-map f rows t d [] there in
      ap (λ (rs : List (List NetId)). list_of rs t) set_is ∙ (ap ids (get_or-set_same (map f rows) t (f v) [] low)
      ∙ (ap ids items ∙ (map-append (λ (n : NetId). n.0) (f (get_or rows t d)) (own ∷ []) ∙ ap (λ (ns : List NetId). ids ns ++ own.0 ∷ []) (sym old))))

  row_else : (m : ℕ) → m ≢ t → list_of (map f later) m ≡ list_of (map f rows) m
  row_else m other = ap (λ (rs : List (List NetId)). list_of rs m) set_is ∙ ap ids (get_or-set_other (map f rows) t m (f v) [] other)

  pub listed_more : AreMore own.0 (map f rows) (map f later)
  listed_more = record {
    kept = λ m x has. elim (cases_eq m t) [
      | inl e ↦
          let P : ℕ → Type 0 = λ i. HasListed (map f rows) i x → HasListed (map f later) i x in
          subst P (sym e) (λ h. subst (λ xs. Contains xs x) (sym row_then) (Contains-append_left (list_of (map f rows) t) (own.0 ∷ []) x h)) has
      | inr ne ↦ subst (λ xs. Contains xs x) (sym (row_else m ne)) has
    ];
    no_other = λ m x has. elim (cases_eq m t) [
      | inl e ↦
          let P : ℕ → Type 0 = λ i. HasListed (map f later) i x → HasListed (map f rows) i x ⊎ (x ≡ own.0) in
          subst P (sym e) (λ h. elim (Contains-append_cases (list_of (map f rows) t) (own.0 ∷ []) x (subst (λ xs. Contains xs x) row_then h)) [
            | inl a ↦ inl a
            | inr b ↦ inr (only x b)
          ]) has
      | inr ne ↦ inl (subst (λ xs. Contains xs x) (row_else m ne) has)
    ];
  } where
    only : (x : ℕ) → Contains (own.0 ∷ []) x → x ≡ own.0
    only x h = only_at h.0 h.1 h.2 where
      only_at : (i : ℕ) → i < 1 → get_or (own.0 ∷ []) i x ≡ x → x ≡ own.0
      only_at zero lt e = sym e
      only_at (suc i) lt e = absurd (omega (arith, lt))

  pub listed_there : HasListed (map f later) t own.0
  listed_there = subst (λ xs. Contains xs own.0) (sym row_then) (Contains-append_right (list_of (map f rows) t) (own.0 ∷ []) own.0 (0, omega arith, refl))

-- ---- rows
pub rows_count : {V : Type 0} (f : V → List NetId) (rows : List V) → length (map f rows) ≡ length rows
rows_count f rows = length-map rows f

-- rows that were lent as a slice and are given back
pub rows_back : {V : Type 0} (n : ℕ) (xs ys : List V) → n ≡ length xs → length ys ≡ length xs → take n (ys ++ drop (length ys) xs) ≡ ys
rows_back n xs ys is same =
    let P : ℕ → Type 0 = λ k. take k (ys ++ drop (length ys) xs) ≡ ys in
    subst P (same ∙ sym is) (take-append_seam ys (drop (length ys) xs))

pub none_listed : (lists : List (List NetId)) (m x : ℕ) → list_of lists m ≡ [] → HasListed lists m x → ⊥
none_listed lists m x none has = never (subst (λ xs. Contains xs x) none has) where
  never : Contains [] x → ⊥
  never h = omega (arith, h.1)

-- ---- one after another
pub more_none : (own : ℕ) (lists : List (List NetId)) → AreMore own lists lists
more_none own lists = record { kept = λ m x h. h; no_other = λ m x h. inl h }

pub more_twice : (own : ℕ) (a b c : List (List NetId)) → AreMore own a b → AreMore own b c → AreMore own a c
more_twice own a b c h k = record {
  kept = λ m x has. k.kept m x (h.kept m x has);
  no_other = λ m x has. elim (k.no_other m x has) [ inl p ↦ h.no_other m x p | inr e ↦ inr e ];
}

-- all of a net's couplings are listed with one net more
module _ (d : Parts) (lists later : List (List NetId)) (number : ℕ) (net : Net) (at : slice_get d.nets number ≡ Some net) (more : AreMore number lists later)
    (listed : All (λ k. HasListed later k.to.0 number) net.couplings) where
  pub each_more : ((m : ℕ) → m < number → IfSome (slice_get d.nets m) (λ n. All (λ k. HasListed lists k.to.0 m) n.couplings)) → (m : ℕ) → m < number + 1
      → IfSome (slice_get d.nets m) (λ n. All (λ k. HasListed later k.to.0 m) n.couplings)
  each_more before m lt = elim (cases_lt m number) [
    | inl p ↦ still (slice_get d.nets m) (before m p)
    | inr p ↦
        let e : number ≡ m = omega (arith, lt, p) in
        let P : ℕ → Type 0 = λ i. IfSome (slice_get d.nets i) (λ n. All (λ k. HasListed later k.to.0 i) n.couplings) in
        subst P e (subst (λ (o : Option Net). IfSome o (λ n. All (λ k. HasListed later k.to.0 number) n.couplings)) (sym at) listed)
  ] where
    still : (o : Option Net) → IfSome o (λ n. All (λ k. HasListed lists k.to.0 m) n.couplings) → IfSome o (λ n. All (λ k. HasListed later k.to.0 m) n.couplings)
    still None h = tt
    still (Some n) h = λ i k below. more.kept (get_or n.couplings i k).to.0 m (h i k below)

  pub inside_more : ((m x : ℕ) → HasListed lists m x → x < number) → (m x : ℕ) → HasListed later m x → x < number + 1
  inside_more before m x has = elim (more.no_other m x has) [
    | inl h ↦ let p = before m x h in omega (arith, p)
    | inr e ↦ omega (arith, e)
  ]

pub all_listed : (d : Parts) (lists : List (List NetId)) (count : ℕ) → length d.nets ≤ count → length lists ≡ length d.nets → ((m x : ℕ) → HasListed lists m x → x < length d.nets)
    → ((m : ℕ) → m < count → IfSome (slice_get d.nets m) (λ n. All (λ k. HasListed lists k.to.0 m) n.couplings)) → AreListed d lists
all_listed d lists count many same inside each = record {
  count = same;
  inside = λ m i x h.
      let c = ids_count (reads_of lists m) in
      let has : HasListed lists m (slice_index (list_of lists m) i) = Contains-get_or (list_of lists m) i 0 (omega (arith, c, h)) in
      subst (λ n. n < length d.nets) (id_at (reads_of lists m) i x h) (inside m (slice_index (list_of lists m) i) has);
  each = λ m. elim (cases_lt m (length d.nets)) [
    | inl p ↦ each m (omega (arith, p, many))
    | inr p ↦ subst (λ (o : Option Net). IfSome o (λ n. All (λ k. HasListed lists k.to.0 m) n.couplings)) (sym (slice_get_past d.nets m p)) tt
  ];
}
