-- What a text leaves true where one module alone is admitted.
use Rattle.std.specs.Prelude.{◌≡◌, refl, ℕ, true, List, Ok, None}
use Rattle.std.proofs.Common.{subst}
use Rattle.text_forms.specs.Refusals.{tokens_refused}
use Rattle.xt_lex.specs.declared.rules.Rules.TheVariants.{Verilog}
use Rattle.xt_model.specs.declared.code.Code.TheVariants.{V1, V2}
use Rattle.verilog_net.specs.declared.context.Context.TheVariants.{Start}
use Rattle.verilog_net.specs.declared.netlist.Wire.TheVariants as wires
use Rattle.verilog_net.specs.Sorts.{netlist_tokens}
use Rattle.verilog_net.specs.Meaning.{State, nothing, means, list_name}
use Rattle.verilog_net.specs.Reading.{rest_means, text_state}
use Rattle.text_forms.proofs.Kept.{not_refused}
use Rattle.verilog_net.proofs.Stages.{Stage, before, in_module, in_instance, in_pin, between, after, ItemsKeep, text_kept}
use Rattle.flat_laws.proofs.Known.{Empty, Outside, Within, Ended, begins_first, begins_again, name_keeps, end_keeps, declare_keeps, left_keeps, right_keeps, begin_keeps, pin_keeps, connect_keeps, bit_keeps, net_keeps, instance_keeps}

abbrev Holds : Stage → State → Type 0
Holds before s = Empty s
Holds in_module s = Outside s
Holds in_instance s = Within s
Holds in_pin s = Within s
Holds between s = Outside s
Holds after s = Ended s

items_keep : ItemsKeep means Holds
unfolding means
items_keep = record {
  refused = λ code s s' e. absurd (cc);
  quiet = λ stage s s' h e. let same : s ≡ s' = cc in subst (Holds stage) same h;
  statement = λ s s' h e. let same : s ≡ s' = cc in subst Outside same h;
  first = λ s s' h e. begins_first s s' h e;
  again = λ s s' h e. begins_again s s' h e;
  named = λ name s s' h e. name_keeps s s' name h e;
  listed = λ name s s' h e. let same : list_name name s ≡ s' = cc in subst Outside same h;
  end = λ s s' h e. end_keeps s s' h e;
  scalar = λ role name is s s' h e. declare_keeps (record s { role = role; range = None }) s' name h e;
  left = λ role digits s s' h e. left_keeps s s' role digits h e;
  right = λ digits s s' h e. right_keeps s s' digits h e;
  further = λ name is s s' h e. declare_keeps s s' name h e;
  instance = λ cell name line also is s s' h e. begin_keeps (record s { cell = cell }) s' name line h e;
  further_instance = λ name line is s s' h e. begin_keeps s s' name line h e;
  pin = λ name is s s' h e. pin_keeps s s' name h e;
  unconnected = λ s s' h e. connect_keeps s s' wires.Open tt h e;
  constant = λ s s' h e. connect_keeps s s' wires.Constant tt h e;
  net = λ name is s s' h e. net_keeps s s' h name e;
  bit = λ bus digits s s' h e. bit_keeps s s' bus digits h e;
  closed = λ s s' h e. instance_keeps s s' h e;
}

nothing_read : Empty (nothing true)
nothing_read = (
  record { alone = refl; closed = tt; pins = tt; instances = tt; noted = tt; apart = refl },
  record { instances = refl; pins = refl; ended = refl },
)

pub text_ended : (bytes : List ℕ) (s : State) → text_state true bytes ≡ Ok s → Ended s
unfolding text_state
text_ended bytes s e =
    let read = not_refused (tokens_refused Verilog V1 V2 bytes) (rest_means Start (netlist_tokens bytes) (nothing true)) s e in
    text_kept means Holds items_keep bytes (nothing true) s nothing_read read
