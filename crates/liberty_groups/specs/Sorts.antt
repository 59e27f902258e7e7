-- The sorts of tokens of a Liberty text.
use Rattle.std.specs.Prelude.{ℕ, Bool, List, codes, ◌==◌, if◌then◌else◌}
use Rattle.std.specs.Str.{bytes_eq}
use Rattle.text_forms.specs.Forms.{Token}
use Rattle.text_forms.specs.Tokens.{sorted_tokens}
use Rattle.xt_lex.specs.declared.rules.Rules.TheVariants.{Liberty}
use Rattle.xt_lex.specs.declared.token.Kind.{Kind}
use Rattle.xt_lex.specs.declared.token.Kind.TheVariants as kinds
use Rattle.liberty_groups.specs.declared.sort.Sort.{Sort}
use Rattle.liberty_groups.specs.declared.sort.Sort.TheVariants as sorts

-- a sort's place among the sorts
abbrev pub sort_number : Sort → ℕ
sort_number sorts.Library = 0
sort_number sorts.Word = 1
sort_number sorts.Text = 2
sort_number sorts.LeftParen = 3
sort_number sorts.RightParen = 4
sort_number sorts.LeftBrace = 5
sort_number sorts.RightBrace = 6
sort_number sorts.Colon = 7
sort_number sorts.Semicolon = 8
sort_number sorts.Comma = 9
sort_number sorts.Other = 10
sort_number sorts.End = 11

-- both are one sort
abbrev pub same_sort : Sort → Sort → Bool
same_sort a b = sort_number a == sort_number b

-- what a word is
abbrev pub word_sort : List ℕ → Sort
word_sort word = if bytes_eq word (codes "library") then sorts.Library else sorts.Word

-- what a mark is
unfoldable pub mark_sort : List ℕ → Sort
mark_sort mark =
    if bytes_eq mark (codes "(") then sorts.LeftParen
    else if bytes_eq mark (codes ")") then sorts.RightParen
    else if bytes_eq mark (codes "{") then sorts.LeftBrace
    else if bytes_eq mark (codes "}") then sorts.RightBrace
    else if bytes_eq mark (codes ":") then sorts.Colon
    else if bytes_eq mark (codes ";") then sorts.Semicolon
    else if bytes_eq mark (codes ",") then sorts.Comma
    else sorts.Other

-- what a token is, by its kind
abbrev pub sort_by : Kind → List ℕ → Sort
sort_by kinds.Word text = word_sort text
sort_by kinds.Text text = sorts.Text
sort_by kinds.Mark text = mark_sort text
sort_by _ text = sorts.Other

-- the tokens of a whole text and its end
abbrev pub liberty_tokens : List ℕ → List (Token Sort)
liberty_tokens bytes = sorted_tokens sort_by sorts.End Liberty bytes
