use Rattle.std.proofs.Common.{rules, ◌≡◌, sym, ap, ◌∙◌, subst}
use Rattle.std.specs.Prelude.{IfSome, map}
use Rattle.std.specs.List.{All}
use Rattle.sdc_read.specs.declared.ports.PortBit.{PortBit}
use Rattle.sdc_read.specs.Ports.{settled, AllInRange, IsInRange}
use Rattle.sdc_read.specs.Mentions.{AllFit, told}
use Rattle.sdc_read.specs.Levels.{SaidLevels, set_by, levels_of, known}
use Rattle.sdc_read.proofs.Ranges.{told_in_range}
use Rattle.sdc_read.proofs.Settled.{all_settled}
use Rattle.sdc_read.proofs.TableLaws.{all_known}
use Rattle.sdc_read.proofs.port_table.PortTable.new.Goals as goal

pub invariant_of-result : goal.invariant_of-result
invariant_of-result c =
    let ns = c.in_ok-nets.nets.items in
    let fit : AllFit ns c.args.clock c.args.said = subst (λ l. AllFit l c.args.clock c.args.said) (sym c.in_ok-nets.ensures) c.requires in
    let levels : c.in_ok-levels.levels ≡ record { said = c.args.said; levels = levels_of ns c.args.said } = search rules in
    let by_said : IfSome c.args.clock (λ at. c.clock_numbers-own.result ≡ set_by ns at c.said-2.result.now) = search rules in
    let own : IfSome c.args.clock (λ at. c.clock_numbers-own.result ≡ set_by ns at c.args.said) =
    subst (λ ms. IfSome c.args.clock (λ at. c.clock_numbers-own.result ≡ set_by ns at ms)) (c.said-2.ensures ∙ ap (λ (l : SaidLevels). l.said) levels) by_said in
    subst (λ (l : SaidLevels). ((at : PortBit) → known ns c.args.clock c.clock_numbers-own.result l.levels at ≡ set_by ns at l.said) × AllInRange (told ns l.said)) (sym levels)
    (all_known ns c.args.said c.args.clock c.clock_numbers-own.result own fit, told_in_range ns c.args.clock c.args.said fit)

pub returns-clause-range : goal.returns-clause-range
returns-clause-range c =
    let ns = c.in_ok-nets.nets.items in
    let fit : AllFit ns c.args.clock c.args.said = subst (λ l. AllFit l c.args.clock c.args.said) (sym c.in_ok-nets.ensures) c.requires in
    let levels : c.in_ok-levels.levels ≡ record { said = c.args.said; levels = levels_of ns c.args.said } = search rules in
    subst (λ (l : SaidLevels). All IsInRange (map settled (told ns l.said))) (sym levels)
    (all_settled (told ns c.args.said) (told_in_range ns c.args.clock c.args.said fit))
