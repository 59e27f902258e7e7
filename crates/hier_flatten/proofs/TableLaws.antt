-- Tables of named values, made one name after another.
use Rattle.std.specs.Prelude.{◌≡◌, refl, Bool, true, false, List, [], ◌∷◌, Option, Some, None, if◌then◌else◌}
use Rattle.std.specs.Str.{bytes_eq}
use Rattle.std.proofs.Common.{◌≤◌, length, get_or, sym, ap, ◌∙◌, subst}
use Rattle.hier_flatten.proofs.SliceLaws.{rest_of, first_and_rest}
use Rattle.std.proofs.lemmas.Bool.{false≢true}
use Rattle.std.proofs.lemmas.Slice.Eq.{bytes_eq-Decides}
use Rattle.name_numbers.specs.Names.{Text, value_of, with_value}
use Rattle.hier_flatten.specs.Tables.{unless_held, with_first, IsTableOf}

module _ {V : Type 0} where
  -- what a name has once another one has its value
  pub value_with : (other name : Text) (v : V) (named : List (Text × V))
      → value_of other (with_value name v named) ≡ (if bytes_eq other name then Some v else value_of other named)
  value_with other name v [] = refl
  value_with other name v (e ∷ more) = by (bytes_eq name e.0) refl (value_with other name v more)
    where
      turn : (b c : Bool) (u w : V) (o : Option V) → (b ≡ true → c ≡ true → ⊥)
          → (if c then Some w else (if b then Some u else o)) ≡ (if b then Some u else (if c then Some w else o))
      turn true true u w o h = absurd (h refl refl)
      turn true false u w o h = refl
      turn false true u w o h = refl
      turn false false u w o h = refl

      joined : (b c : Bool) (u w : V) (o : Option V) → b ≡ c
          → (if c then Some w else o) ≡ (if b then Some w else (if c then Some u else o))
      joined true true u w o h = refl
      joined false false u w o h = refl
      joined true false u w o h = absurd (false≢true (sym h))
      joined false true u w o h = absurd (false≢true h)

      by : (b : Bool) → bytes_eq name e.0 ≡ b
          → value_of other (with_value name v more) ≡ (if bytes_eq other name then Some v else value_of other more)
          → value_of other (if b then (e.0, v) ∷ more else e ∷ with_value name v more)
          ≡ (if bytes_eq other name then Some v else (if bytes_eq other e.0 then Some e.1 else value_of other more))
      by true same rest =
          joined (bytes_eq other name) (bytes_eq other e.0) e.1 v (value_of other more) (ap (bytes_eq other) ((bytes_eq-Decides name e.0).0 same))
      by false apart rest =
          ap (λ o. if bytes_eq other e.0 then Some e.1 else o) rest
          ∙ turn (bytes_eq other name) (bytes_eq other e.0) v e.1 (value_of other more)
          (λ a b. false≢true (sym apart ∙ (bytes_eq-Decides name e.0).1 (sym ((bytes_eq-Decides other name).0 a) ∙ (bytes_eq-Decides other e.0).0 b)))

  -- the value that comes first
  abbrev pub before : Option V → Option V → Option V
  before None more = more
  before (Some v) more = Some v

  -- a table with the values that come before some others
  pub record IsPart (table rest all : List (Text × V)) : Type 0 where
    pub each : (name : Text) → before (value_of name table) (value_of name rest) ≡ value_of name all

  pub none_yet : (all : List (Text × V)) → IsPart [] all all
  none_yet all = record { each = λ name. refl }

  kept_by : (o p more : Option V) (v : V) (b : Bool) → (b ≡ true → o ≡ p) → (p ≡ None → ⊥)
      → before o (if b then Some v else more) ≡ before o more
  kept_by o p more v false same held = refl
  kept_by None p more v true same held = absurd (held (sym (same refl)))
  kept_by (Some w) p more v true same held = refl

  put_by : (o p more : Option V) (v : V) (b : Bool) → (b ≡ true → o ≡ p) → p ≡ None
      → before (if b then Some v else o) more ≡ before o (if b then Some v else more)
  put_by o p more v false same held = refl
  put_by None p more v true same held = refl
  put_by (Some w) p more v true same held = absurd (cc (same refl ∙ held))

  module _ (table rest all : List (Text × V)) (name : Text) (v : V) (part : IsPart table ((name, v) ∷ rest) all) where
    same_value : (other : Text) → bytes_eq other name ≡ true → value_of other table ≡ value_of name table
    same_value other e = ap (λ t. value_of t table) ((bytes_eq-Decides other name).0 e)

    one_kept : (value_of name table ≡ None → ⊥) → IsPart table rest all
    one_kept held = record {
      each = λ other. sym (kept_by (value_of other table) (value_of name table) (value_of other rest) v (bytes_eq other name) (same_value other) held) ∙ part.each other;
    }

    one_put : value_of name table ≡ None → IsPart (with_value name v table) rest all
    one_put none = record {
      each = λ other.
          ap (λ o. before o (value_of other rest)) (value_with other name v table)
          ∙ (put_by (value_of other table) (value_of name table) (value_of other rest) v (bytes_eq other name) (same_value other) none ∙ part.each other);
    }

    one_by : (o : Option V) → value_of name table ≡ o → IsPart (unless_held name v table o) rest all
    one_by None e = one_put e
    one_by (Some w) e = one_kept (λ none. cc (sym e ∙ none))

    -- the name gets its value, unless it has one
    pub one_more : IsPart (with_first name v table) rest all
    one_more = one_by (value_of name table) refl

  -- one entry of a slice more
  pub first_turn : (table new rest : List (Text × V)) (d p : Text × V) (name : Text) (all : List (Text × V)) → 1 ≤ length rest → p ≡ get_or rest 0 d
      → name ≡ p.0 → new ≡ with_first name p.1 table → IsPart table rest all → IsPart new (rest_of rest) all
  first_turn table new rest d (n, v) name all some is named entered part =
      let whole : rest ≡ (n, v) ∷ rest_of rest = first_and_rest rest d (n, v) some is in
      let one : IsPart table ((n, v) ∷ rest_of rest) all = subst (λ r. IsPart table r all) whole part in
      let other : IsPart table ((name, v) ∷ rest_of rest) all = subst (λ t. IsPart table ((t, v) ∷ rest_of rest) all) (sym named) one in
      subst (λ t. IsPart t (rest_of rest) all) (sym entered) (one_more table (rest_of rest) all name v other)

  before_none : (o : Option V) → before o None ≡ o
  before_none None = refl
  before_none (Some v) = refl

  pub all_put : (table all : List (Text × V)) → IsPart table [] all → IsTableOf all table
  all_put table all part = record { each = λ name. sym (before_none (value_of name table)) ∙ part.each name }
