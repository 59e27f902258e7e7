-- Tests of names, through the map of keys that a table holds.
use Rattle.std.specs.Prelude.{◌≡◌, refl, ℕ, Bool, true, false, List, [], ◌∷◌, ◌++◌, map, position, Some, None, if◌then◌else◌}
use Rattle.std.specs.List.{list_any, position_or_len, slice_get}
use Rattle.std.specs.Map.{lookup}
use Rattle.std.specs.Str.{bytes_eq}
use Rattle.std.proofs.Common.{sym, ap, ◌∙◌}
use Rattle.std.proofs.lemmas.List.{map-append, length-map}
use Rattle.std.proofs.lemmas.Option.{slice_get-map}
use Rattle.std.proofs.lemmas.Slice.Eq.{bytes_eq-Decides}
use Rattle.indexmap.specs.IndexMap.{insert_entry}
use Rattle.name_numbers.specs.Names.{Text, with_name, found, value_of, with_value}

module _ {A B : Type 0} (p : B → Bool) (f : A → B) where
  pub any_mapped : (xs : List A) → list_any (λ x. p (f x)) xs ≡ list_any p (map f xs)
  any_mapped [] = refl
  any_mapped (x ∷ xs) = rw (any_mapped xs) refl

  pub number_mapped : (xs : List A) → position_or_len (λ x. p (f x)) xs ≡ position_or_len p (map f xs)
  number_mapped [] = refl
  number_mapped (x ∷ xs) = rw (number_mapped xs) refl

  pub position_mapped : (xs : List A) → position (λ x. p (f x)) xs ≡ position p (map f xs)
  position_mapped xs = rw (number_mapped xs, length-map xs f) refl

module _ {A : Type 0} (f : A → Text) where
  with_mapped : (b : Bool) (x : A) (xs : List A) → map f (if b then xs else xs ++ x ∷ []) ≡ (if b then map f xs else map f xs ++ f x ∷ [])
  with_mapped true x xs = refl
  with_mapped false x xs = map-append f xs (x ∷ [])

  -- the names once a name has been entered into the table
  pub entered_mapped : (x : A) (xs : List A)
      → map f (if list_any (λ y. bytes_eq (f x) (f y)) xs then xs else xs ++ x ∷ []) ≡ with_name (f x) (map f xs)
  entered_mapped x xs = rw (sym (any_mapped (bytes_eq (f x)) f xs)) (with_mapped (list_any (λ y. bytes_eq (f x) (f y)) xs) x xs)

module _ {K V : Type 0} (f : K → Text) where
  -- an entry of the table as a name with its value
  abbrev pub named : K × V → Text × V
  named e = (f e.0, e.1)

  set_one : (b : Bool) (e : K × V) (v : V) (es : List (K × V)) (more : List (K × V)) (rest : List (Text × V))
      → map named more ≡ rest
      → map named (if b then (e.0, v) ∷ es else e ∷ more) ≡ (if b then (f e.0, v) ∷ map named es else named e ∷ rest)
  set_one true e v es more rest h = refl
  set_one false e v es more rest h = ap (λ r. named e ∷ r) h

  -- the entries once a name has its value
  pub value_mapped : (es : List (K × V)) (k : K) (v : V)
      → map named (insert_entry (λ x y. bytes_eq (f x) (f y)) es k v) ≡ with_value (f k) v (map named es)
  value_mapped [] k v = refl
  value_mapped (e ∷ es) k v = set_one (bytes_eq (f k) (f e.0)) e v es _ _ (value_mapped es k v)

  -- the value that the table has for the name
  pub value_looked_up : (name : Text) (es : List (K × V)) → lookup (λ k. bytes_eq name (f k)) es ≡ value_of name (map named es)
  value_looked_up name [] = refl
  value_looked_up name (e ∷ es) = rw (value_looked_up name es) refl

  named_keys : (es : List (K × V)) → map (λ e. e.0) (map named es) ≡ map f (map (λ e. e.0) es)
  named_keys [] = refl
  named_keys (e ∷ es) = ap (λ r. f e.0 ∷ r) (named_keys es)

  -- where the table has the name, by the names with their values
  pub place_mapped : (name : Text) (es : List (K × V))
      → position (λ k. bytes_eq name (f k)) (map (λ e. e.0) es) ≡ position (bytes_eq name) (map (λ e. e.0) (map named es))
  place_mapped name es = position_mapped (bytes_eq name) f (map (λ e. e.0) es) ∙ ap (position (bytes_eq name)) (sym (named_keys es))

  -- what a table without the name finds
  pub not_found : (name : Text) (es : List (K × V))
      → position (λ k. bytes_eq name (f k)) (map (λ e. e.0) es) ≡ None → found name (map named es) ≡ None
  not_found name es h = rw (sym (place_mapped name es), h) refl

  -- what a table finds at the first place of the name
  pub found_at : (name : Text) (es : List (K × V)) (i : ℕ) (k : K) (v : V)
      → position (λ k. bytes_eq name (f k)) (map (λ e. e.0) es) ≡ Some i → slice_get es i ≡ Some (k, v)
      → found name (map named es) ≡ Some (i, v)
  found_at name es i k v h at = rw (sym (place_mapped name es), h, slice_get-map named es i, at) refl

module _ {V : Type 0} where
  by_first : (name other : Text) (v w u : V) (more rest : List (Text × V)) (b : Bool) → bytes_eq name other ≡ b
      → with_value name v rest ≡ with_value name v more
      → with_value name v (if b then (other, w) ∷ more else (other, u) ∷ rest)
      ≡ (if b then (other, v) ∷ more else (other, u) ∷ with_value name v more)
  by_first name other v w u more rest true e h = rw e refl
  by_first name other v w u more rest false e h = rw e (ap (λ es. (other, u) ∷ es) h)

  -- of two values that a name is given the second counts
  pub value_given_twice : (name : Text) (v w : V) (es : List (Text × V))
      → with_value name v (with_value name w es) ≡ with_value name v es
  value_given_twice name v w [] = rw ((bytes_eq-Decides name name).1 refl) refl
  value_given_twice name v w (e ∷ more) =
      by_first name e.0 v w e.1 more (with_value name w more) (bytes_eq name e.0) refl (value_given_twice name v w more)
      ∙ refl
