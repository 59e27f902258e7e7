use Rattle.std.proofs.Common.{◌≡◌, None, Ok, option_map, refl, sym, ap, ◌∙◌}
use Rattle.text_forms.specs.Refusals.{tokens_refused}
use Rattle.text_forms.specs.Stops.{refusal_of}
use Rattle.xt_lex.specs.declared.rules.Rules.TheVariants.{Verilog}
use Rattle.xt_model.specs.declared.code.Code.TheVariants.{V1, V2}
use Rattle.verilog_net.specs.declared.context.Context.TheVariants.{Start}
use Rattle.verilog_net.specs.Meaning.{nothing}
use Rattle.verilog_net.specs.Reading.{rest_means, text_state, modules_in}
use Rattle.verilog_net.specs.Sorts.{netlist_tokens}
use Rattle.text_forms.proofs.Kept.{refused_by}
use Rattle.verilog_net.proofs.read.modules.Goals as goal

pub returns-in-Err : goal.returns-in-Err
unfolding text_state
returns-in-Err c =
    let none : tokens_refused Verilog V1 V2 c.args.bytes.now ≡ None = sym c.tokens_refused.ensures ∙ ap (option_map refusal_of) c.in_default.is in
    rw none (refused_by modules_in (λ r. refl) _ (rest_means Start (netlist_tokens c.args.bytes.now) (nothing c.args.single)) (rw (c.new-terms.ensures, c.new-state.ensures) at c.in-Err.ensures))

pub returns-in-Ok : goal.returns-in-Ok
unfolding text_state
returns-in-Ok c =
    let none : tokens_refused Verilog V1 V2 c.args.bytes.now ≡ None = sym c.tokens_refused.ensures ∙ ap (option_map refusal_of) c.in_default.is in
    rw none (ap modules_in (rw (c.new-terms.ensures, c.new-state.ensures) at c.in-Ok.ensures) ∙ ap Ok (sym c.into_ended-ended.ensures))
