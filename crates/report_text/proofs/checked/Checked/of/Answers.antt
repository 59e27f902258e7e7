use Rattle.std.proofs.Common.{◌<◌, true, false, length, sym, subst}
use Rattle.std.specs.List.{All}
use Rattle.xt_model.specs.Assign.{assigned}
use Rattle.report_text.proofs.CheckLines.{all_within, all_of_design}
use Rattle.report_text.proofs.checked.Checked.of.Goals as goal

pub returns-clause-named : goal.returns-clause-named
returns-clause-named c =
    let d = c.args.design.now in
    let high = assigned c.args.high.now in
    record {
      slacks = subst (All (λ s. s.point < length d.checks)) (sym c.from_vec.ensures) (all_within d high c.in_ok-slacks.slacks.items c.in_ok-slacks.ensures.points);
      setup = all_of_design d high false _ c.in_ok-setup.setup c.in_ok-setup.ensures;
      hold = all_of_design d high true _ c.in_ok-hold.hold c.in_ok-hold.ensures;
    }
