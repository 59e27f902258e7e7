-- What a whole text means: its modules, or of the refusals of its tokens, its forms and their meanings the first.
use Rattle.std.specs.Prelude.{ℕ, Bool, true, false, List, [], ◌∷◌, Ok, Err}
use Rattle.text_forms.specs.Refusals.{Meant, refuse, tokens_refused, unless}
use Rattle.text_forms.specs.Meaning.{text_means}
use Rattle.xt_lex.specs.declared.rules.Rules.TheVariants.{Verilog}
use Rattle.xt_model.specs.declared.code.Code.TheVariants.{V1, V2}
use Rattle.verilog_net.specs.declared.context.Context.{Context}
use Rattle.verilog_net.specs.declared.context.Context.TheVariants.{Start}
use Rattle.verilog_net.specs.declared.netlist.Netlist.{Netlist}
use Rattle.verilog_net.specs.Sorts.{same_sort, netlist_tokens}
use Rattle.verilog_net.specs.Forms.{Tokens, misfits, forms}
use Rattle.verilog_net.specs.Meaning.{State, nothing, means}

-- what some tokens mean in a context, from a state on
abbrev pub rest_means : Context → Tokens → State → Meant State
rest_means context ts s = text_means same_sort misfits forms means context ts s

-- what a text means, where one module alone is admitted or several are
unfoldable pub text_state : Bool → List ℕ → Meant State
text_state single bytes =
    unless (tokens_refused Verilog V1 V2 bytes) (rest_means Start (netlist_tokens bytes) (nothing single))

-- the modules of a state
abbrev pub modules_in : Meant State → Meant (List Netlist)
modules_in (Ok s) = Ok s.ended
modules_in (Err r) = Err r

-- the modules that a text means
abbrev pub modules_of : List ℕ → Meant (List Netlist)
modules_of bytes = modules_in (text_state false bytes)

-- the one module; a text without one has ended early
abbrev pub one_of : Meant (List Netlist) → Meant Netlist
one_of (Ok []) = refuse 1 V2
one_of (Ok (m ∷ ms)) = Ok m
one_of (Err r) = Err r

-- the one module that a text means, without a whole bus as a connection
abbrev pub netlist_of_text : List ℕ → Meant Netlist
netlist_of_text bytes = one_of (modules_in (text_state true bytes))
