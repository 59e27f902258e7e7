-- Values by name of which the first counts.
use Rattle.std.specs.Prelude.{◌≡◌, refl, ℕ, Bool, true, false, cond, List, [], ◌∷◌, length, Option, Some, None, option_map, is_some, not, position, find, drop, IfSome}
use Rattle.std.specs.Prelude.{unwrap_or, ◌++◌, ◌||◌}
use Rattle.std.specs.List.{list_any, position_from, position_or_len, slice_get}
use Rattle.std.specs.Option.{option_or}
use Rattle.std.proofs.Common.{sym, ap, ◌∙◌, arith, get_or, take, ◌+◌, ◌-◌, ◌<◌, ◌≤◌, ltb, subst, ◌⊎◌, inl, inr}
use Rattle.std.proofs.lemmas.Slice.Eq.{bytes_eq-Decides}
use Rattle.std.proofs.lemmas.Bool.{false≢true, lt-ltb, cases_lt, ltb-true, ltb-false}
use Rattle.std.proofs.lemmas.Option.{slice_get_past}
use Rattle.std.proofs.lemmas.Iterator.Adapters.{position_from-zero}
use Rattle.std.proofs.lemmas.List.{take_all}
use Rattle.std.proofs.lemmas.List.Sums.{prefix_len-le-length}
use Rattle.std.proofs.lemmas.List.Folds.{find_at}
use Rattle.std.specs.Str.{bytes_eq}
use Rattle.name_numbers.specs.Names.{Text, value_of, with_value}
use Rattle.link_index.specs.Cells.{at_place}
use Rattle.link_index.proofs.BitLaws.{or_none, from-append}

-- a test of bytes, as an equation or not
module _ {V : Type 0} where
  set_here : (m n k : Text) (v w : V) (rest : Option V) (b c : Bool) → bytes_eq n k ≡ true → bytes_eq m k ≡ b → bytes_eq m n ≡ c
      → cond b (Some v) rest ≡ cond c (Some v) (cond b (Some w) rest)
  set_here m n k v w rest b c same e f =
      let eq : n ≡ k = (bytes_eq-Decides n k).0 same in
      let one : b ≡ c = sym e ∙ ap (bytes_eq m) (sym eq) ∙ f in
      subst (λ (x : Bool). cond b (Some v) rest ≡ cond x (Some v) (cond b (Some w) rest)) one (by b)
    where
      by : (b : Bool) → cond b (Some v) rest ≡ cond b (Some v) (cond b (Some w) rest)
      by true = refl
      by false = refl

  set_past : (m n k : Text) (v w : V) (rest after : Option V) (b c : Bool) → bytes_eq n k ≡ false → bytes_eq m k ≡ b → bytes_eq m n ≡ c
      → after ≡ cond c (Some v) rest → cond b (Some w) after ≡ cond c (Some v) (cond b (Some w) rest)
  set_past m n k v w rest after true true apart e f h =
      let eq : m ≡ k = (bytes_eq-Decides m k).0 e in
      let other : m ≡ n = (bytes_eq-Decides m n).0 f in
      absurd (false≢true (sym apart ∙ (bytes_eq-Decides n k).1 (sym other ∙ eq)))
  set_past m n k v w rest after true false apart e f h = refl
  set_past m n k v w rest after false true apart e f h = h
  set_past m n k v w rest after false false apart e f h = h

  set_one : (m n : Text) (v : V) (e : Text × V) (more : List (Text × V)) (b : Bool) → bytes_eq n e.0 ≡ b
      → value_of m (with_value n v more) ≡ cond (bytes_eq m n) (Some v) (value_of m more)
      → value_of m (cond b ((e.0, v) ∷ more) (e ∷ with_value n v more)) ≡ cond (bytes_eq m n) (Some v) (cond (bytes_eq m e.0) (Some e.1) (value_of m more))
  set_one m n v e more true same h = set_here m n e.0 v e.1 (value_of m more) (bytes_eq m e.0) (bytes_eq m n) same refl refl
  set_one m n v e more false apart h =
      set_past m n e.0 v e.1 (value_of m more) (value_of m (with_value n v more)) (bytes_eq m e.0) (bytes_eq m n) apart refl refl h

  -- the value of a name once another name, or this one, has a value
  pub value_set : (m n : Text) (v : V) (t : List (Text × V)) → value_of m (with_value n v t) ≡ cond (bytes_eq m n) (Some v) (value_of m t)
  value_set m n v [] = refl
  value_set m n v (e ∷ more) = set_one m n v e more (bytes_eq n e.0) refl (value_set m n v more)

  new_by : (m n : Text) (v : V) (o : Option V) (b : Bool) → bytes_eq m n ≡ b → (m ≡ n → o ≡ None) → cond b (Some v) o ≡ option_or o (cond b (Some v) None)
  new_by m n v o true e h = rw (h ((bytes_eq-Decides m n).0 e)) refl
  new_by m n v o false e h = sym (or_none o)

  -- a name without a value gets one
  pub first_new : (m n : Text) (v : V) (t : List (Text × V)) → value_of n t ≡ None
      → value_of m (with_value n v t) ≡ option_or (value_of m t) (cond (bytes_eq m n) (Some v) None)
  first_new m n v t h = value_set m n v t ∙ new_by m n v (value_of m t) (bytes_eq m n) refl (λ e. ap (λ x. value_of x t) e ∙ h)

  old_by : (m n : Text) (v u : V) (o : Option V) (b : Bool) → bytes_eq m n ≡ b → (m ≡ n → o ≡ Some u) → o ≡ option_or o (cond b (Some v) None)
  old_by m n v u o true e h = rw (h ((bytes_eq-Decides m n).0 e)) refl
  old_by m n v u o false e h = sym (or_none o)

  -- a name with a value keeps it
  pub first_old : (m n : Text) (v u : V) (t : List (Text × V)) → value_of n t ≡ Some u
      → value_of m t ≡ option_or (value_of m t) (cond (bytes_eq m n) (Some v) None)
  first_old m n v u t h = old_by m n v u (value_of m t) (bytes_eq m n) refl (λ e. ap (λ x. value_of x t) e ∙ h)

  -- a table with one item more, of the items that are left
  pub one_more : (a b tail : Option V) (p : Bool) (v : V) → b ≡ option_or a (cond p (Some v) None) → option_or b tail ≡ option_or a (cond p (Some v) tail)
  one_more a b tail p v e = ap (λ o. option_or o tail) e ∙ by a p
    where
      by : (a : Option V) (p : Bool) → option_or (option_or a (cond p (Some v) None)) tail ≡ option_or a (cond p (Some v) tail)
      by (Some x) p = refl
      by None true = refl
      by None false = refl

-- ---- places

module _ {X : Type 0} (p : X → Bool) where
  -- what stands at the first place where a test passes is the first that passes it
  pub find_place : (xs : List X) (i : ℕ) → position p xs ≡ Some i → find p xs ≡ slice_get xs i
  find_place xs i h = by (cases_lt (position_or_len p xs) (length xs))
    where
      by : (position_or_len p xs < length xs) ⊎ (length xs ≤ position_or_len p xs) → find p xs ≡ slice_get xs i
      by (inl lt) =
          let e : Some (position_or_len p xs) ≡ Some i = rw (lt-ltb (position_or_len p xs) (length xs) lt) at h in
          let same : position_or_len p xs ≡ i = cc in
          find_at p xs ∙ ap (slice_get xs) same
      by (inr ge) = absurd (by_none (ltb (position_or_len p xs) (length xs)) refl)
        where
          by_none : (b : Bool) → ltb (position_or_len p xs) (length xs) ≡ b → ⊥
          by_none true e = omega (arith, ltb-true (position_or_len p xs) (length xs) e)
          by_none false e = let k = rw e at h in cc

  pub place_within : (xs : List X) (i : ℕ) → position p xs ≡ Some i → i < length xs
  place_within xs i h = by (ltb (position_or_len p xs) (length xs)) refl
    where
      by : (b : Bool) → ltb (position_or_len p xs) (length xs) ≡ b → i < length xs
      by true e =
          let k : Some (position_or_len p xs) ≡ Some i = rw e at h in
          let same : position_or_len p xs ≡ i = cc in
          omega (arith, ltb-true (position_or_len p xs) (length xs) e)
      by false e = let k = rw e at h in absurd (cc)

  pub find_nowhere : (xs : List X) → position p xs ≡ None → find p xs ≡ None
  find_nowhere xs h = by (cases_lt (position_or_len p xs) (length xs))
    where
      by : (position_or_len p xs < length xs) ⊎ (length xs ≤ position_or_len p xs) → find p xs ≡ None
      by (inl lt) = let e : Some (position_or_len p xs) ≡ None = rw (lt-ltb (position_or_len p xs) (length xs) lt) at h in absurd (cc)
      by (inr ge) = find_at p xs ∙ slice_get_past xs (position_or_len p xs) ge

module _ {X : Type 0} (p : X → Bool) where
  -- the first item that passes a test is what stands at its place
  pub find_at_place : (xs : List X) (o : Option ℕ) → position p xs ≡ o → find p xs ≡ at_place xs o
  find_at_place xs None h = find_nowhere p xs h
  find_at_place xs (Some i) h = find_place p xs i h

  pub places_within : (xs : List X) (o : Option ℕ) → position p xs ≡ o → IfSome o (λ i. i < length xs)
  places_within xs None h = tt
  places_within xs (Some i) h = place_within p xs i h

-- ---- options

-- what is none has no value
pub no_value : {A B : Type 0} (f : A → B) (o : Option A) (v : Option B) (b : Bool) → is_some o ≡ not b → b ≡ true → option_map f o ≡ v → v ≡ None
no_value f None v b h e m = sym m
no_value f (Some a) v b h e m = absurd (false≢true (sym (h ∙ ap not e)))

-- ---- lists, item by item

-- a list of at least one item
pub first_and_rest : {X : Type 0} (xs : List X) (d : X) → 1 ≤ length xs → xs ≡ get_or xs 0 d ∷ take (length xs - 1) (drop 1 xs)
first_and_rest [] d h = absurd (omega arith)
first_and_rest (x ∷ more) d h =
    let e : length (x ∷ more) - 1 ≡ length more = omega arith in
    ap (λ l. x ∷ l) (sym (ap (λ n. take n more) e ∙ take_all (length more) more (omega arith)))

-- a list of no items
pub no_items : {X : Type 0} (xs : List X) → length xs < 1 → xs ≡ []
no_items [] h = refl
no_items (x ∷ more) h = absurd (omega arith)

-- ---- tables that are filled item by item

-- what is left of a list behind its first item
abbrev pub rest_of : {X : Type 0} → List X → List X
rest_of xs = take (length xs - 1) (drop 1 xs)

-- a table with the first of the pairs that are left
pub values_one : {V : Type 0} (t u : List (Text × V)) (n : Text) (v : V) (rest : List (Text × V)) (d : Text × V)
    → 1 ≤ length rest → n ≡ (get_or rest 0 d).0 → v ≡ (get_or rest 0 d).1
    → ((other : Text) → value_of other u ≡ option_or (value_of other t) (cond (bytes_eq other n) (Some v) None))
    → (name : Text) → option_or (value_of name u) (value_of name (rest_of rest)) ≡ option_or (value_of name t) (value_of name rest)
values_one t u n v rest d some en ev set name =
    one_more (value_of name t) (value_of name u) (value_of name (rest_of rest)) (bytes_eq name n) v (set name)
    ∙ ap (λ m. option_or (value_of name t) (cond (bytes_eq name m) (Some v) (value_of name (rest_of rest)))) en
    ∙ ap (λ w. option_or (value_of name t) (cond (bytes_eq name (get_or rest 0 d).0) (Some w) (value_of name (rest_of rest)))) ev
    ∙ ap (λ l. option_or (value_of name t) (value_of name l)) (sym (first_and_rest rest d some))

-- a table with all pairs
pub values_all : {V : Type 0} (t : List (Text × V)) (rest xs : List (Text × V)) → length rest < 1
    → ((name : Text) → option_or (value_of name t) (value_of name rest) ≡ value_of name xs)
    → (name : Text) → value_of name t ≡ value_of name xs
values_all t rest xs e each name =
    sym (or_none (value_of name t)) ∙ ap (λ l. option_or (value_of name t) (value_of name l)) (sym (no_items rest e)) ∙ each name

module _ {X : Type 0} (key : X → Text) where
  -- a table with the place of the first of the items that are left
  pub places_one : (t u : List (Text × ℕ)) (place : ℕ) (n : Text) (rest : List X) (d : X) → 1 ≤ length rest → n ≡ key (get_or rest 0 d)
      → ((other : Text) → value_of other u ≡ option_or (value_of other t) (cond (bytes_eq other n) (Some place) None))
      → (name : Text) → option_or (value_of name u) (position_from (λ y. bytes_eq name (key y)) (place + 1) (rest_of rest))
      ≡ option_or (value_of name t) (position_from (λ y. bytes_eq name (key y)) place rest)
  places_one t u place n rest d some en set name =
      one_more (value_of name t) (value_of name u) (position_from (λ y. bytes_eq name (key y)) (place + 1) (rest_of rest)) (bytes_eq name n) place (set name)
      ∙ ap (λ m. option_or (value_of name t) (cond (bytes_eq name m) (Some place) (position_from (λ y. bytes_eq name (key y)) (place + 1) (rest_of rest)))) en
      ∙ ap (λ l. option_or (value_of name t) (position_from (λ y. bytes_eq name (key y)) place l)) (sym (first_and_rest rest d some))

  -- a table with the places of all items
  pub places_all : (t : List (Text × ℕ)) (place : ℕ) (rest xs : List X) → length rest < 1
      → ((name : Text) → option_or (value_of name t) (position_from (λ y. bytes_eq name (key y)) place rest) ≡ position_from (λ y. bytes_eq name (key y)) 0 xs)
      → (name : Text) → value_of name t ≡ position (λ y. bytes_eq name (key y)) xs
  places_all t place rest xs e each name =
      sym (or_none (value_of name t))
      ∙ ap (λ l. option_or (value_of name t) (position_from (λ y. bytes_eq name (key y)) place l)) (sym (no_items rest e))
      ∙ each name ∙ sym (position_from-zero (λ y. bytes_eq name (key y)) xs)

-- ---- places of items, and one item more

module _ {X : Type 0} (p : X → Bool) where
  -- the first place of one item more
  pub position_push : (xs : List X) (y : X) → position p (xs ++ y ∷ []) ≡ option_or (position p xs) (cond (p y) (Some (length xs)) None)
  position_push xs y =
      position_from-zero p (xs ++ y ∷ []) ∙ from-append p 0 xs (y ∷ [])
      ∙ ap (λ o. option_or o (cond (p y) (Some (0 + length xs)) None)) (sym (position_from-zero p xs))
      ∙ ap (λ k. option_or (position p xs) (cond (p y) (Some k) None)) (omega arith)

  -- where an item stands, or how many there are
  pub number_is : (xs : List X) → unwrap_or (position p xs) (length xs) ≡ position_or_len p xs
  number_is xs = by (ltb (position_or_len p xs) (length xs)) refl
    where
      by : (b : Bool) → ltb (position_or_len p xs) (length xs) ≡ b
          → unwrap_or (cond b (Some (position_or_len p xs)) None) (length xs) ≡ position_or_len p xs
      by true e = refl
      by false e = omega (arith, ltb-false (position_or_len p xs) (length xs) e, prefix_len-le-length (λ x. not (p x)) xs)

  from_any : (i : ℕ) (xs : List X) → list_any p xs ≡ is_some (position_from p i xs)
  from_any i [] = refl
  from_any i (x ∷ xs) = by (p x) (from_any (i + 1) xs)
    where
      by : (b : Bool) → list_any p xs ≡ is_some (position_from p (i + 1) xs) → (b || list_any p xs) ≡ is_some (cond b (Some i) (position_from p (i + 1) xs))
      by true h = refl
      by false h = h

  -- some item passes where one has a place
  pub any_is : (xs : List X) → list_any p xs ≡ is_some (position p xs)
  any_is xs = from_any 0 xs ∙ ap is_some (sym (position_from-zero p xs))

-- ---- values of names, one after another

-- a name has the value that it has past an entry of another name
pub value_past : {V : Type 0} (name : Text) (rest : List (Text × V)) (d x : Text × V) (v : Option V) → 1 ≤ length rest → x ≡ get_or rest 0 d
    → bytes_eq name x.0 ≡ false → value_of name rest ≡ v → value_of name (rest_of rest) ≡ v
value_past name rest d x v some is apart h =
    let front : rest ≡ x ∷ rest_of rest = first_and_rest rest d some ∙ ap (λ y. y ∷ rest_of rest) (sym is) in
    let past : value_of name rest ≡ value_of name (rest_of rest) =
    ap (value_of name) front ∙ ap (λ b. cond b (Some x.1) (value_of name (rest_of rest))) apart in
    sym past ∙ h
