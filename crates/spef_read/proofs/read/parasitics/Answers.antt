use Rattle.std.proofs.Common.{◌≡◌, None, option_map, refl, sym, ap, ◌∙◌}
use Rattle.text_forms.specs.Refusals.{tokens_refused}
use Rattle.text_forms.specs.Stops.{refusal_of}
use Rattle.xt_lex.specs.declared.rules.Rules.TheVariants.{Spef}
use Rattle.xt_model.specs.declared.code.Code.TheVariants.{S1, S2}
use Rattle.spef_read.specs.declared.context.Context.TheVariants.{Start}
use Rattle.spef_read.specs.Meaning.{nothing}
use Rattle.spef_read.specs.Reading.{rest_means, text_state, parasitics_in}
use Rattle.spef_read.specs.Sorts.{spef_tokens}
use Rattle.text_forms.proofs.Kept.{refused_by}
use Rattle.spef_read.proofs.read.parasitics.Goals as goal

pub returns-in-Err : goal.returns-in-Err
unfolding text_state
returns-in-Err c =
    let none : tokens_refused Spef S1 S2 c.args.bytes.now ≡ None = sym c.tokens_refused.ensures ∙ ap (option_map refusal_of) c.in_default.is in
    rw none (refused_by parasitics_in (λ r. refl) _ (rest_means Start (spef_tokens c.args.bytes.now) nothing) (rw (c.new-terms.ensures, c.new-state.ensures) at c.in-Err.ensures))

pub returns-in-Ok : goal.returns-in-Ok
unfolding text_state
returns-in-Ok c =
    let none : tokens_refused Spef S1 S2 c.args.bytes.now ≡ None = sym c.tokens_refused.ensures ∙ ap (option_map refusal_of) c.in_default.is in
    rw none (ap parasitics_in (rw (c.new-terms.ensures, c.new-state.ensures) at c.in-Ok.ensures) ∙ sym c.into_parasitics-parasitics.ensures)
