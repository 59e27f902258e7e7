use Rattle.std.proofs.Common.{refl}
use Rattle.report_text.specs.Report.{checked_lines}
use Rattle.report_text.proofs.checked.push_checked.Goals as goal

pub returns : goal.returns
returns c =
    let checked = c.in_ok-checked.checked in
    (checked_lines c.args.design.now checked, (checked, c.in_ok-checked.ensures.is_checked, refl), c.in_ok-pushed.ensures)
