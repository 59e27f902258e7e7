use Rattle.link_rules.proofs.OneOutcome.{fault_is_one, design_is_one, linked_is_accepted}
use Rattle.design_link.proofs.laws.linking_has_one_outcome.Goals as goal

pub returns : goal.returns
returns c = record { one_fault = fault_is_one; one_design = design_is_one; not_both = linked_is_accepted }
