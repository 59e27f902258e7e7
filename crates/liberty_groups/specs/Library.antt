-- The group that a Liberty text is.
use Rattle.std.specs.Prelude.{ℕ, List, [], ◌∷◌, Ok, Err}
use Rattle.text_forms.specs.Refusals.{Meant, refuse, tokens_refused, unless}
use Rattle.text_forms.specs.Meaning.{text_means}
use Rattle.xt_lex.specs.declared.rules.Rules.TheVariants.{Liberty}
use Rattle.xt_model.specs.declared.code.Code.TheVariants.{L1, L2}
use Rattle.liberty_groups.specs.declared.context.Context.{Context}
use Rattle.liberty_groups.specs.declared.context.Context.TheVariants.{Start}
use Rattle.liberty_groups.specs.Sorts.{liberty_tokens}
use Rattle.liberty_groups.specs.Grammar.{Tokens, fits, misfits, forms}
use Rattle.liberty_groups.specs.Trees.{Tree}
use Rattle.liberty_groups.specs.Building.{Unfinished, nothing_read, step}

-- what the tokens that are left make of a text that was read in part
abbrev pub rest_means : Context → Tokens → Unfinished → Meant Unfinished
rest_means context ts u = text_means fits misfits forms step context ts u

-- the library is the group that is left at the end; a text without one has ended too early
abbrev pub library_in : List Tree → Meant Tree
library_in [] = refuse misfits.last L2
library_in (t ∷ ts) = Ok t

-- a text that was read to its end
abbrev pub library_read : Meant Unfinished → Meant Tree
library_read (Ok u) = library_in u.groups
library_read (Err r) = Err r

-- the library that a text is, or its first refusal
unfoldable pub library_of : List ℕ → Meant Tree
library_of bytes =
    unless (tokens_refused Liberty L1 L2 bytes) (library_read (rest_means Start (liberty_tokens bytes) nothing_read))
