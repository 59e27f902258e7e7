use Rattle.std.specs.Prelude.{ℕ, None}
use Rattle.std.proofs.Common.{subst}
use Rattle.xt_model.specs.declared.fault.LimitKind.TheVariants as limits
use Rattle.xt_model.specs.Limits.{most_reads}
use Rattle.link_rules.specs.Limits.{passed}
use Rattle.link_pins.specs.Answers.{Tests}
use Rattle.design_link.proofs.sizes.check_reads.Goals as goal

pub returns : goal.returns
returns c = λ d is. subst (λ (n : ℕ). Tests (passed limits.Reads None n most_reads) c.within.result) (c.reads_in_all.ensures d is) c.within.ensures
