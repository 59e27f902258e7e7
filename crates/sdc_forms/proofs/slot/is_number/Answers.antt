use Rattle.std.proofs.Common.{pos, not, ap, ◌∙◌}
use Rattle.sdc_forms.proofs.NumberForms.{number_form}
use Rattle.sdc_forms.proofs.slot.is_number.Goals as goal

pub returns : goal.returns
returns c = ap not c.is_form.ensures ∙ number_form c.args.text.now (pos 0) _ c.read_fixed.ensures.exact
