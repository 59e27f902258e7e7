-- Items whose names differ.
use Rattle.std.proofs.Common.{◌≡◌, ◌∙◌, Bool, true, false, cond, not, ◌&&◌, ◌||◌, refl, sym, ap, List, [], ◌∷◌, ◌++◌, Option, Some, None, true≢false, append_assoc, append-nil, inl, inr}
use Rattle.std.proofs.lemmas.Bool.{and_parts, cases_Bool}
use Rattle.std.proofs.lemmas.List.Folds.{list_any-append}
use Rattle.std.proofs.lemmas.Slice.Eq.{bytes_eq-Decides}
use Rattle.std.proofs.Math.Bool.{or-false}
use Rattle.std.specs.Option.{option_and_then}
use Rattle.std.specs.Str.{bytes_eq}
use Rattle.command_grammar.specs.Grammar.{Text, Item, are_once, has_name, in_front}

true_back : (a b : Text) → bytes_eq a b ≡ true → bytes_eq b a ≡ true
true_back a b e = (bytes_eq-Decides b a).1 (sym ((bytes_eq-Decides a b).0 e))

false_back : (a b : Text) → bytes_eq a b ≡ false → bytes_eq b a ≡ false
false_back a b e = elim (cases_Bool (bytes_eq b a)) [
  | inl same ↦ absurd (true≢false (sym (true_back b a same) ∙ e))
  | inr other ↦ other
]

has_name_more : (name : Text) (items rest : List Item) → has_name name (items ++ rest) ≡ (has_name name items || has_name name rest)
has_name_more name items rest = list_any-append (λ i. bytes_eq i.0 name) items rest

-- a name that comes again
twice : (i : Item) (items more : List Item) → has_name i.0 items ≡ true → are_once (items ++ i ∷ more) ≡ false
twice i [] more e = absurd (true≢false (sym e))
twice i (j ∷ rest) more e = elim (cases_Bool (bytes_eq j.0 i.0)) [
  | inl same ↦ rw (has_name_more j.0 rest (i ∷ more), true_back j.0 i.0 same, or_true (has_name j.0 rest)) refl
  | inr other ↦ rw (twice i rest more (let h : (bytes_eq j.0 i.0 || has_name i.0 rest) ≡ true = e in rw other at h)) (and_false (not (has_name j.0 (rest ++ i ∷ more))))
]
  where
    or_true : (b : Bool) → (b || true) ≡ true
    or_true true = refl
    or_true false = refl

    and_false : (b : Bool) → (b && false) ≡ false
    and_false true = refl
    and_false false = refl

pub neither : (a b : Bool) → (a || b) ≡ false → (a ≡ false) × (b ≡ false)
neither true b e = absurd (true≢false e)
neither false b e = (refl, e)

-- a name that comes for the first time
pub once_more : (i : Item) (items : List Item) → are_once items ≡ true → has_name i.0 items ≡ false → are_once (items ++ i ∷ []) ≡ true
once_more i [] o e = refl
once_more i (j ∷ rest) o e =
    let parts = and_parts (not (has_name j.0 rest)) (are_once rest) o in
    let names = neither (bytes_eq j.0 i.0) (has_name i.0 rest) e in
    rw (has_name_more j.0 rest (i ∷ []), false_back j.0 i.0 names.0, or-false (has_name j.0 rest), parts.0, once_more i rest parts.1 names.1) refl

-- ---- the items of the words, after those of the words before them

abbrev pub whole : List Item → Option (List Item)
whole items = cond (are_once items) (Some items) None

abbrev pub found_after : List Item → Option (List Item) → Option (List Item)
found_after items rest = option_and_then (λ more. whole (items ++ more)) rest

pub found_more : (i : Item) (items : List Item) (rest : Option (List Item)) → found_after items (in_front i rest) ≡ found_after (items ++ i ∷ []) rest
found_more i items None = refl
found_more i items (Some more) = ap whole (sym (append_assoc items (i ∷ []) more))

pub found_twice : (i : Item) (items : List Item) (rest : Option (List Item)) → has_name i.0 items ≡ true → found_after items (in_front i rest) ≡ None
found_twice i items None e = refl
found_twice i items (Some more) e = rw (twice i items more e) refl

pub found_end : (items : List Item) → found_after items (Some []) ≡ whole items
found_end items = ap whole (append-nil items)
