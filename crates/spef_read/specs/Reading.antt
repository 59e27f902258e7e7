-- What a whole text means: its parasitics, or of the refusals of its tokens, its forms and their meanings the first.
use Rattle.std.specs.Prelude.{ℕ, List, Ok, Err}
use Rattle.text_forms.specs.Refusals.{Meant, tokens_refused, unless}
use Rattle.text_forms.specs.Meaning.{text_means}
use Rattle.xt_lex.specs.declared.rules.Rules.TheVariants.{Spef}
use Rattle.xt_model.specs.declared.code.Code.TheVariants.{S1, S2}
use Rattle.spef_read.specs.declared.context.Context.{Context}
use Rattle.spef_read.specs.declared.context.Context.TheVariants.{Start}
use Rattle.spef_read.specs.declared.parasitics.Parasitics.{Parasitics}
use Rattle.spef_read.specs.Sorts.{spef_tokens}
use Rattle.spef_read.specs.Forms.{Tokens, fits, misfits, forms}
use Rattle.spef_read.specs.Meaning.{State, nothing, means}

-- what some tokens mean in a context, from a state on
abbrev pub rest_means : Context → Tokens → State → Meant State
rest_means context ts s = text_means fits misfits forms means context ts s

-- what a text means, as a state behind its end
unfoldable pub text_state : List ℕ → Meant State
text_state bytes = unless (tokens_refused Spef S1 S2 bytes) (rest_means Start (spef_tokens bytes) nothing)

-- the parasitics of a state
abbrev pub parasitics_in : Meant State → Meant Parasitics
parasitics_in (Ok s) = Ok (record { delimiter = s.marks.delimiter; names = s.names; nets = s.nets })
parasitics_in (Err r) = Err r

-- the parasitics that a text means
abbrev pub parasitics_of : List ℕ → Meant Parasitics
parasitics_of bytes = parasitics_in (text_state bytes)
