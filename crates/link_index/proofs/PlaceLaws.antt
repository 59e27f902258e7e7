-- Lists that go together, and names with numbers.
use Rattle.std.specs.Prelude.{◌≡◌, refl, ℕ, zero, suc, List, [], ◌∷◌, ◌++◌, length, map, Option, Some, None, option_map, position}
use Rattle.std.specs.List.{slice_get, AllZip}
use Rattle.std.proofs.Common.{sym, ap, ◌∙◌, arith, ◌<◌, ◌≤◌, subst, get_or, append_assoc, rules}
use Rattle.std.proofs.lemmas.List.{append-nil}
use Rattle.std.specs.Option.{IsSomeAnd, MatchOption}
use Rattle.std.proofs.lemmas.Option.{none-some, slice_get-get_or}
use Rattle.std.proofs.lemmas.Slice.Zip.{all_zipped_more, AllZip-right}
use Rattle.std.specs.Str.{bytes_eq}
use Rattle.name_numbers.specs.Names.{Text, found}
use Rattle.link_index.proofs.FirstLaws.{place_within, first_and_rest, no_items, rest_of}

-- the items of a list up to these that are left go with those of another
pub record ZippedTo {A B : Type 0} (R : A → B → Type 0) (xs : List A) (ys : List B) (rest : List A) : Type 0 where
  pub done : List A
  pub whole : done ++ rest ≡ xs
  pub zipped : AllZip R done ys

module _ {A B : Type 0} (R : A → B → Type 0) (xs : List A) where
  pub zipped_none : ZippedTo R xs [] xs
  zipped_none = record { done = []; whole = refl; zipped = search rules }

  pub zipped_one : (ys : List B) (x : A) (more : List A) (y : B) → ZippedTo R xs ys (x ∷ more) → R x y → ZippedTo R xs (ys ++ y ∷ []) more
  zipped_one ys x more y s p = record {
    done = s.done ++ x ∷ [];
    whole = append_assoc s.done (x ∷ []) more ∙ s.whole;
    zipped = all_zipped_more R s.done ys x y s.zipped p;
  }

  zipped_all : (ys : List B) → ZippedTo R xs ys [] → AllZip R xs ys
  zipped_all ys s = subst (λ (l : List A). AllZip R l ys) (sym (append-nil s.done) ∙ s.whole) s.zipped

  -- the same by the first of the items that are left
  pub zipped_turn : (ys zs : List B) (rest : List A) (d x : A) (y : B) → 1 ≤ length rest → x ≡ get_or rest 0 d → zs ≡ ys ++ y ∷ []
      → ZippedTo R xs ys rest → R x y → ZippedTo R xs zs (rest_of rest)
  zipped_turn ys zs rest d x y some e more s p =
      subst (λ (l : List B). ZippedTo R xs l (rest_of rest)) (sym more)
      (zipped_one ys (get_or rest 0 d) (rest_of rest) y (subst (λ (l : List A). ZippedTo R xs ys l) (first_and_rest rest d some) s)
      (subst (λ (u : A). R u y) e p))

  pub zipped_end : (ys : List B) (rest : List A) → length rest < 1 → ZippedTo R xs ys rest → AllZip R xs ys
  zipped_end ys rest none s = zipped_all ys (subst (λ (l : List A). ZippedTo R xs ys l) (no_items rest none) s)

-- ---- names with numbers

-- what is read at a place is what stands there
pub read_there : {X : Type 0} (xs : List X) (i : ℕ) (d x : X) → i < length xs → x ≡ get_or xs i d → slice_get xs i ≡ Some x
read_there xs i d x h e = slice_get-get_or xs i d h ∙ ap Some (sym e)

-- of two lists that go together, what stands at the same place
pub zipped_at : {A B : Type 0} (R : A → B → Type 0) (xs : List A) (ys : List B) (k : ℕ) (y : B) → AllZip R xs ys → slice_get ys k ≡ Some y
    → IsSomeAnd (slice_get xs k) (λ x. R x y)
zipped_at {B = B} R xs ys k y z h =
    let P : Option B → Type 0 = λ o. MatchOption o (Unit {0}) (λ v. IsSomeAnd (slice_get xs k) (λ x. R x v)) in
    subst P h (AllZip-right R xs ys z k)

-- a fact of what stands at a place, from another
pub some_and : {A : Type 0} (P Q : A → Type 0) (o : Option A) → ((x : A) → P x → Q x) → IsSomeAnd o P → IsSomeAnd o Q
some_and P Q None f h = h
some_and P Q (Some x) f h = f x h

pub there : {X : Type 0} (xs : List X) (i : ℕ) → i < length xs → (x : X) × (slice_get xs i ≡ Some x)
there [] i h = absurd (omega arith)
there (x ∷ xs) zero h = (x, refl)
there (x ∷ xs) (suc i) h = there xs i (omega arith)

-- nothing stands past the end alone
pub not_past : {X : Type 0} (xs : List X) (i : ℕ) → slice_get xs i ≡ None → i < length xs → ⊥
not_past xs i h less = let x = there xs i less in none-some x.0 (sym h ∙ x.1)

module _ {V : Type 0} (name : Text) where
  mapped_length : (t : List (Text × V)) → length (map (λ e. e.0) t) ≡ length t
  mapped_length [] = refl
  mapped_length (e ∷ es) = ap suc (mapped_length es)

  found_by : (t : List (Text × V)) (o : Option ℕ) → position (bytes_eq name) (map (λ e. e.0) t) ≡ o → option_map (λ f. f.0) (found name t) ≡ o
  found_by t None h = rw h refl
  found_by t (Some i) h =
      let w : i < length (map (λ e. e.0) t) = place_within (bytes_eq name) (map (λ e. e.0) t) i h in
      let x = there t i (omega (arith, w, mapped_length t)) in
      rw (h, x.1) refl

  -- the number of a name is the first place where it stands
  pub found_place : (t : List (Text × V)) → option_map (λ f. f.0) (found name t) ≡ position (bytes_eq name) (map (λ e. e.0) t)
  found_place t = found_by t (position (bytes_eq name) (map (λ e. e.0) t)) refl
