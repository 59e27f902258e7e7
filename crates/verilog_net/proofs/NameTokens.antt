-- The names of a netlist's tokens are short names.
use Rattle.std.specs.Prelude.{◌≡◌, refl, ℕ, true, false, List, [], ◌∷◌, drop, codes}
use Rattle.std.specs.Char.{is_ascii_digit}
use Rattle.std.specs.List.{AllByRecursion}
use Rattle.std.specs.Str.{bytes_eq}
use Rattle.std.proofs.lemmas.Bool.{cond_both, false≢true}
use Rattle.text_forms.specs.Forms.{Token}
use Rattle.text_forms.specs.Tokens.{token_by}
use Rattle.text_forms.proofs.Bytes.{each_of_all}
use Rattle.text_forms.proofs.Kept.{each_token}
use Rattle.xt_lex.specs.Bytes.{begins, last_line}
use Rattle.xt_lex.specs.Tokens.{TokenText, token_texts}
use Rattle.xt_lex.specs.declared.rules.Rules.TheVariants.{Verilog}
use Rattle.xt_lex.specs.declared.token.Kind.{Kind}
use Rattle.xt_lex.specs.declared.token.Kind.TheVariants as kinds
use Rattle.verilog_net.specs.declared.sort.Sort.{Sort}
use Rattle.verilog_net.specs.declared.sort.Sort.TheVariants as sorts
use Rattle.text_forms.specs.Names.{is_name}
use Rattle.verilog_net.specs.Sorts.{same_sort, is_direction, is_net_type, is_unsupported, name_sort, digits_sort, letters_sort, word_sort, mark_sort, sort_by, netlist_tokens}

-- where the sort is that of a name, the bytes are one
abbrev IsNameAs : List ℕ → Sort → Type 0
IsNameAs text sort = same_sort sorts.Name sort ≡ true → is_name text ≡ true

-- a token that is a name is a short one
abbrev pub IsNamed : Token Sort → Type 0
IsNamed t = IsNameAs t.text t.sort

module _ (text : List ℕ) where
  abbrev As : Sort → Type 0
  As sort = IsNameAs text sort

  name_as : As (name_sort text)
  name_as = cond_both (is_name text) sorts.Name sorts.Other As (λ e h. e) (λ e h. absurd (false≢true h))

  letters_as : As (letters_sort text)
  letters_as =
      cond_both (bytes_eq text (codes "module")) _ _ As (λ e h. absurd (false≢true h)) (λ e.
      cond_both (bytes_eq text (codes "endmodule")) _ _ As (λ e h. absurd (false≢true h)) (λ e.
      cond_both (is_direction text) _ _ As (λ e h. absurd (false≢true h)) (λ e.
      cond_both (is_net_type text) _ _ As (λ e h. absurd (false≢true h)) (λ e.
      cond_both (is_unsupported text) sorts.Unsupported (name_sort text) As (λ e h. absurd (false≢true h)) (λ e. name_as)))))

  digits_as : (more : List ℕ) → As (digits_sort more)
  digits_as more = cond_both (begins 39 more) sorts.Constant sorts.Number As (λ e h. absurd (false≢true h)) (λ e h. absurd (false≢true h))

word_as : (text : List ℕ) → IsNameAs text (word_sort text)
unfolding word_sort
word_as [] = λ h. absurd (false≢true h)
word_as (b ∷ more) =
    cond_both (is_ascii_digit b) (digits_sort more) (letters_sort (b ∷ more)) (IsNameAs (b ∷ more)) (λ e. digits_as (b ∷ more) more) (λ e. letters_as (b ∷ more))

-- a sort that is none of a name
abbrev IsMark : Sort → Type 0
IsMark sort = same_sort sorts.Name sort ≡ false

mark_is : (mark : List ℕ) → IsMark (mark_sort mark)
unfolding mark_sort
mark_is mark =
    cond_both (bytes_eq mark (codes "(")) _ _ IsMark (λ e. refl) (λ e.
    cond_both (bytes_eq mark (codes ")")) _ _ IsMark (λ e. refl) (λ e.
    cond_both (bytes_eq mark (codes "[")) _ _ IsMark (λ e. refl) (λ e.
    cond_both (bytes_eq mark (codes "]")) _ _ IsMark (λ e. refl) (λ e.
    cond_both (bytes_eq mark (codes "{")) _ _ IsMark (λ e. refl) (λ e.
    cond_both (bytes_eq mark (codes ",")) _ _ IsMark (λ e. refl) (λ e.
    cond_both (bytes_eq mark (codes ";")) _ _ IsMark (λ e. refl) (λ e.
    cond_both (bytes_eq mark (codes ":")) _ _ IsMark (λ e. refl) (λ e.
    cond_both (bytes_eq mark (codes ".")) _ _ IsMark (λ e. refl) (λ e.
    cond_both (bytes_eq mark (codes "#")) sorts.Unsupported sorts.Other IsMark (λ e. refl) (λ e. refl))))))))))

no_name : (text : List ℕ) (sort : Sort) → IsMark sort → IsNameAs text sort
no_name text sort mark h = absurd (false≢true (cc))

sorted_as : (kind : Kind) (t : TokenText) → IsNamed (token_by sort_by sorts.End kind t)
sorted_as kinds.Word t = word_as t.text
sorted_as kinds.Mark t = no_name t.text (mark_sort t.text) (mark_is t.text)
sorted_as kinds.Escaped t = name_as (drop 1 t.text)
sorted_as kinds.Text t = λ h. absurd (false≢true h)
sorted_as kinds.Break t = λ h. absurd (false≢true h)

pub names_named : (bytes : List ℕ) → AllByRecursion IsNamed (netlist_tokens bytes)
names_named bytes =
    let each = each_of_all (λ t. IsNamed (token_by sort_by sorts.End t.kind t)) (λ t. sorted_as t.kind t) (token_texts Verilog bytes) in
    each_token sort_by sorts.End IsNamed (last_line bytes) (token_texts Verilog bytes) (λ h. absurd (false≢true h)) each
