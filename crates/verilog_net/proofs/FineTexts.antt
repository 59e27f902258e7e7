-- The modules of a netlist's text are fine.
use Rattle.std.specs.Prelude.{◌≡◌, refl, ℕ, Bool, true, List, [], ◌∷◌, None, Ok, IfOk}
use Rattle.std.specs.List.{AllByRecursion}
use Rattle.std.proofs.lemmas.Result.{IfOk-at_ok}
use Rattle.text_forms.specs.Refusals.{tokens_refused}
use Rattle.xt_lex.specs.declared.rules.Rules.TheVariants.{Verilog}
use Rattle.xt_model.specs.declared.code.Code.TheVariants.{V1, V2}
use Rattle.verilog_net.specs.declared.context.Context.TheVariants.{Start}
use Rattle.verilog_net.specs.declared.netlist.Netlist.{Netlist}
use Rattle.verilog_net.specs.declared.netlist.Wire.TheVariants as wires
use Rattle.verilog_net.specs.Sorts.{netlist_tokens}
use Rattle.verilog_net.specs.Meaning.{State, nothing, means}
use Rattle.verilog_net.specs.Reading.{rest_means, text_state, modules_in, one_of, netlist_of_text}
use Rattle.text_forms.proofs.Kept.{kept, through, if_ok, not_refused}
use Rattle.verilog_net.proofs.Stages.{Stage, in_module, in_instance, in_pin, between, ItemsKeep, text_kept}
use Rattle.verilog_net.proofs.FineStates.{IsFine, IsFineModule, Outside, InPin, Instanced, nothing_fine, begin_module_fine, name_module_fine}
use Rattle.verilog_net.proofs.FineStates.{end_module_fine, declare_fine, left_bound_fine, right_bound_fine, scalar_fine, further_instance}
use Rattle.verilog_net.proofs.FineStates.{begin_pin_fine, connected, connect_bit_fine, connect_name_fine, end_instance_fine}

-- what holds in a stage
abbrev Holds : Stage → State → Type 0
Holds in_module s = IsFine s
Holds in_instance s = Instanced s
Holds in_pin s = InPin s
Holds between s = Instanced s
Holds _ s = Outside s

items_fine : ItemsKeep means Holds
unfolding means
items_fine = record {
  refused = λ code s s' e. absurd (cc);
  quiet = λ stage s s' h e. kept (Holds stage) e h;
  statement = λ s s' h e. kept IsFine e h.0;
  first = λ s s' h e. IfOk-at_ok Outside e (begin_module_fine s h.0 h.1);
  again = λ s s' h e. IfOk-at_ok Outside e (begin_module_fine s h.0 h.1);
  named = λ name s s' h e. IfOk-at_ok IsFine e (name_module_fine s h.0 name h.1);
  listed = λ name s s' h e. kept IsFine e h;
  end = λ s s' h e. IfOk-at_ok Outside e (end_module_fine s h);
  scalar = λ role name is s s' h e. IfOk-at_ok IsFine e (declare_fine (record s { role = role; range = None }) (scalar_fine s h role) name is);
  left = λ role digits s s' h e. IfOk-at_ok IsFine e (left_bound_fine s h role digits);
  right = λ digits s s' h e. IfOk-at_ok IsFine e (right_bound_fine s h digits);
  further = λ name is s s' h e. IfOk-at_ok IsFine e (declare_fine s h name is);
  instance = λ cell name line also is s s' h e. IfOk-at_ok Instanced e (further_instance (record s { cell = cell }) h name line also is);
  further_instance = λ name line is s s' h e. IfOk-at_ok Instanced e (further_instance s h.0 name line h.1.0 is);
  pin = λ name is s s' h e. IfOk-at_ok InPin e (begin_pin_fine s h name is);
  unconnected = λ s s' h e. kept Instanced e (connected s h wires.Open);
  constant = λ s s' h e. kept Instanced e (connected s h wires.Constant);
  net = λ name is s s' h e. IfOk-at_ok Instanced e (connect_name_fine s h name is);
  bit = λ bus digits s s' h e. IfOk-at_ok Instanced e (connect_bit_fine s h bus digits);
  closed = λ s s' h e. kept Instanced e (end_instance_fine s h);
}

text_fine : (single : Bool) (bytes : List ℕ) → IfOk (text_state single bytes) IsFine
unfolding text_state
text_fine single bytes = if_ok IsFine (text_state single bytes) (λ s e.
    let read = not_refused (tokens_refused Verilog V1 V2 bytes) (rest_means Start (netlist_tokens bytes) (nothing single)) s e in
    let end = text_kept means Holds items_fine bytes (nothing single) s (nothing_fine single, refl) read in
    end.0)

-- the modules that a text means are fine
pub modules_fine : (single : Bool) (bytes : List ℕ) → IfOk (modules_in (text_state single bytes)) (AllByRecursion IsFineModule)
modules_fine single bytes =
    through IsFine (AllByRecursion IsFineModule) modules_in (λ r. tt) (λ s fine. fine.ended) (text_state single bytes) (text_fine single bytes)

first_fine : (ms : List Netlist) → AllByRecursion IsFineModule ms → IfOk (one_of (Ok ms)) IsFineModule
first_fine [] all = tt
first_fine (m ∷ ms) all = all.0

-- the module that a text means is fine
pub netlist_fine : (bytes : List ℕ) (m : Netlist) → netlist_of_text bytes ≡ Ok m → IsFineModule m
netlist_fine bytes m e =
    IfOk-at_ok IsFineModule e (through (AllByRecursion IsFineModule) IsFineModule one_of (λ r. tt) first_fine (modules_in (text_state true bytes)) (modules_fine true bytes))
