-- The test of words before the command of `clap`.
use Rattle.std.proofs.Common.{◌≡◌, ◌∙◌, Bool, false, cond, ◌&&◌, refl, sym, ap, List, [], ◌∷◌, drop, Option, Some, None, inl, inr, true≢false}
use Rattle.std.specs.List.{list_all}
use Rattle.std.specs.Option.{is_some, option_and_then}
use Rattle.std.proofs.lemmas.Bool.{cases_Bool}
use Rattle.std.proofs.lemmas.List.Folds.{list_all-map}
use Rattle.std.specs.Prelude.{String, string_bytes}
use Rattle.std.specs.Global.{Global}
use Rattle.command_grammar.specs.Grammar.{Text, Item, CommandForm, are_once, given_of, in_front, is_plain, items_from, option_items, option_of, positional_items}
use Rattle.command_grammar.specs.Forms.{bytes_of}
use Rattle.command_grammar.specs.Reading.{is_listed}
use Rattle.command_grammar.proofs.Once.{neither}

-- ---- a word that `clap` is not shown

no_front : (item : Item) (o : Option (List Item)) → o ≡ None → in_front item o ≡ None
no_front item o e = ap (in_front item) e

no_positional : (names : List Text) (word : Text) (rest : List Text → Option (List Item)) → ((left : List Text) → rest left ≡ None) → positional_items names word rest ≡ None
no_positional [] word rest none = refl
no_positional (name ∷ left) word rest none = no_front (name, word) (rest left) (none left)

no_option : (o : Option (Text × Option Text)) (rest : Option Text → Option (List Item)) → ((waits : Option Text) → rest waits ≡ None) → option_items o rest ≡ None
no_option None rest none = refl
no_option (Some (name, Some value)) rest none = no_front (name, value) (rest None) (none None)
no_option (Some (name, None)) rest none = none (Some name)

no_some : (o : Option (Text × Option Text)) → is_some o ≡ false → o ≡ None
no_some None e = refl
no_some (Some p) e = absurd (true≢false e)

-- words with such a one have no items
unlisted : (options : List Text) (words : List Text) → list_all (is_listed options) words ≡ false → (waits : Option Text) (names : List Text) → items_from options waits names words ≡ None
unlisted options [] e waits names = absurd (true≢false e)
unlisted options (word ∷ rest) e None names = elim (cases_Bool (is_listed options word)) [
  | inr other ↦
      let parts = neither (is_plain word) (is_some (option_of options word)) other in
      rw (parts.0, no_some (option_of options word) parts.1) refl
  | inl listed ↦
      let later = unlisted options rest (rw listed at e) in
      elim (cases_Bool (is_plain word)) [
        | inl plain ↦ rw plain (no_positional names word (λ left. items_from options None left rest) (later None))
        | inr option ↦ rw option (no_option (option_of options word) (λ waits. items_from options waits names rest) (λ waits. later waits names))
      ]
]
unlisted options (word ∷ rest) e (Some name) names = elim (cases_Bool (is_plain word)) [
  | inr option ↦ rw option refl
  | inl plain ↦
      let later = unlisted options rest (let h : (is_listed options word && list_all (is_listed options) rest) ≡ false = e in rw plain at h) in
      rw plain (no_front (name, word) (items_from options None names rest) (later None names))
]

pub not_listed : (form : CommandForm) (words : List Text) → list_all (is_listed form.options) words ≡ false → given_of form words ≡ None
not_listed form words e = ap (option_and_then (λ is. cond (are_once is) (Some is) None)) (unlisted form.options words e None form.positionals)

-- the test of the words, over the words as texts
pub listed_is : (options : List Text) (words behind : List (String Global)) (b : Bool) → behind ≡ drop 1 words → b ≡ list_all (λ word. is_listed options (string_bytes word)) behind
    → list_all (is_listed options) (drop 1 (bytes_of words)) ≡ b
listed_is options [] behind b is e = sym (e ∙ ap (list_all (λ word. is_listed options (string_bytes word))) is)
listed_is options (command ∷ rest) behind b is e = sym (e ∙ ap (list_all (λ word. is_listed options (string_bytes word))) is ∙ sym (list_all-map (is_listed options) string_bytes rest))
