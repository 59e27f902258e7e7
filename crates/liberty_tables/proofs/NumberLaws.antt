-- Numbers behind others.
use Rattle.std.proofs.Common.{◌≡◌, refl, ap, sym, ◌∙◌, ℕ, List, [], ◌∷◌, ◌++◌, map, append_assoc}
use Rattle.std.proofs.lemmas.List.{append-nil}
use Rattle.std.specs.Prelude.{flat_map, ℤ, Option, Some, None, Result, Ok, Err}
use Rattle.name_numbers.specs.Names.{Text}
use Rattle.xt_number.specs.declared.fault.NumberFault.{NumberFault}
use Rattle.xt_number.specs.Value.{fixed}
use Rattle.liberty_groups.specs.declared.span.Span.{Span}
use Rattle.liberty_tables.specs.Contents.{content, numbers_in}
use Rattle.liberty_tables.specs.Numbers.{fixed_and, all_fixed, behind}

-- one more number, and others behind it
pub behind_more : (xs : List ℤ) (x : ℤ) (o : Option (List ℤ))
    → behind (xs ++ x ∷ []) o ≡ behind xs (fixed_and {E = NumberFault} (Ok x) o)
behind_more xs x None = refl
behind_more xs x (Some ys) = ap Some (simp append_assoc)

-- a number that is refused
pub behind_refused : (xs : List ℤ) (e : NumberFault) (o : Option (List ℤ)) → behind xs (fixed_and (Err e) o) ≡ None
behind_refused xs e None = refl
behind_refused xs e (Some ys) = refl

-- no number
pub behind_none : (xs : List ℤ) (scale : ℤ) → behind xs (all_fixed scale []) ≡ Some xs
behind_none xs scale = ap Some (append-nil xs)

-- numbers behind others, where those are numbers
abbrev pub behind_some : Option (List ℤ) → Option (List ℤ) → Option (List ℤ)
behind_some None ys = None
behind_some (Some xs) ys = behind xs ys

-- one item, and numbers behind it in two parts
two_parts : (xs : List ℤ) (r : Result ℤ NumberFault) (o p q : Option (List ℤ))
    → ((ys : List ℤ) → behind ys p ≡ behind_some (behind ys o) q)
    → behind xs (fixed_and r p) ≡ behind_some (behind xs (fixed_and r o)) q
two_parts xs (Ok x) o p q parts = sym (behind_more xs x p) ∙ (parts (xs ++ x ∷ []) ∙ ap (λ t. behind_some t q) (behind_more xs x o))
two_parts xs (Err e) o p q parts = behind_refused xs e p ∙ sym (ap (λ t. behind_some t q) (behind_refused xs e o))

-- numbers in two parts
pub behind_parts : (scale : ℤ) (a b : List Text) (xs : List ℤ)
    → behind xs (all_fixed scale (a ++ b)) ≡ behind_some (behind xs (all_fixed scale a)) (all_fixed scale b)
behind_parts scale [] b xs = sym (ap (λ t. behind_some t (all_fixed scale b)) (behind_none xs scale))
behind_parts scale (x ∷ a) b xs =
    two_parts xs (fixed x scale) (all_fixed scale a) (all_fixed scale (a ++ b)) (all_fixed scale b)
    (λ ys. behind_parts scale a b ys)

-- a number of a string is read, and others behind it are left
pub item_turn : (scale : ℤ) (old new : List ℤ) (x y : ℤ) (items more : List Text) (item : Text) (whole : Option (List ℤ))
    → items ≡ item ∷ more → Ok x ≡ fixed item scale → y ≡ x → new ≡ old ++ y ∷ []
    → behind old (all_fixed scale items) ≡ whole → behind new (all_fixed scale more) ≡ whole
item_turn scale old new x y items more item whole split read same pushed known =
    rw (pushed, same, behind_more old x (all_fixed scale more)) (rw (split, sym read) at known)

module _ (bytes : List ℕ) (scale : ℤ) (value : Span) (rest more : List Span) (old : List ℤ) (whole : Option (List ℤ)) where
  -- the numbers of a string are read, and others behind it are left
  pub values_turn : (new : List ℤ) → rest ≡ value ∷ more
      → behind old (all_fixed scale (numbers_in (content bytes value))) ≡ Some new
      → behind old (all_fixed scale (flat_map numbers_in (map (content bytes) rest))) ≡ whole
      → behind new (all_fixed scale (flat_map numbers_in (map (content bytes) more))) ≡ whole
  values_turn new split read known =
      sym (rw split (behind_parts scale (numbers_in (content bytes value)) (flat_map numbers_in (map (content bytes) more)) old)
      ∙ ap (λ t. behind_some t (all_fixed scale (flat_map numbers_in (map (content bytes) more)))) read) ∙ known

  -- a number of a string is refused
  pub values_stop : rest ≡ value ∷ more
      → behind old (all_fixed scale (numbers_in (content bytes value))) ≡ None
      → behind old (all_fixed scale (flat_map numbers_in (map (content bytes) rest))) ≡ whole
      → None ≡ whole
  values_stop split read known =
      sym (rw split (behind_parts scale (numbers_in (content bytes value)) (flat_map numbers_in (map (content bytes) more)) old)
      ∙ ap (λ t. behind_some t (all_fixed scale (flat_map numbers_in (map (content bytes) more)))) read) ∙ known
