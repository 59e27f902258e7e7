use Rattle.std.proofs.Common.{rules, ◌≡◌, sym, subst}
use Rattle.std.specs.Prelude.{false, is_some, option_map}
use Rattle.sdc_read.specs.Meaning.{bit_of}
use Rattle.sdc_read.specs.Mentions.{nets_of, AllFit, IsKept}
use Rattle.sdc_read.proofs.MentionLaws.{any_clock, none_clock}
use Rattle.sdc_read.proofs.progress.Progress.create_clock.Goals as goal

pub returns-clause-kept : goal.returns-clause-kept
returns-clause-kept c = λ kept.
    let before : AllFit (nets_of c.args.netlist.now) (option_map bit_of c.self.inside.clock) c.self.inside.said =
    subst (IsKept c.args.netlist.now) (sym c.self.view_is) kept in
    let none : is_some c.self.inside.clock ≡ false = search rules in
    any_clock (nets_of c.args.netlist.now) _ c.self.inside.said
    (subst (λ o. AllFit (nets_of c.args.netlist.now) (option_map bit_of o) c.self.inside.said) (none_clock c.self.inside.clock none) before)
