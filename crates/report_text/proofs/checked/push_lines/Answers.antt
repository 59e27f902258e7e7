use Rattle.std.proofs.Common.{◌++◌, ap, ◌∙◌}
use Rattle.text_lines.specs.Lines.{text_of}
use Rattle.report_text.specs.Checks.{check_lines}
use Rattle.report_text.specs.Paths.{worst_lines}
use Rattle.report_text.proofs.CheckLines.{checked_pieces}
use Rattle.std.proofs.lemmas.Result.{on_ok_weaker}
use Rattle.report_text.proofs.checked.push_lines.Goals as goal

pub returns : goal.returns
returns c =
    let d = c.args.design.now in
    let k = c.args.checked.now in
    on_ok_weaker c.push_worst_path-2.result (λ last.
    checked_pieces _ _ _ _ (check_lines d k.slacks) (worst_lines d k.setup) (worst_lines d k.hold)
    (c.in_ok-push_checks.ensures ∙ ap (λ slacks. c.args.out.now.items ++ text_of (check_lines d slacks)) c.as_slice.ensures)
    c.in_ok-push_worst_path.ensures last) c.push_worst_path-2.ensures
