use Rattle.std.proofs.Common.{◌++◌, map, ap, ◌∙◌, rules, w64}
use Rattle.std.proofs.lemmas.Int.{to_z-of_z}
use mir.Val.{SFits}
use Rattle.text_lines.specs.Lines.{line_text, text_of}
use Rattle.report_text.specs.Paths.{worst_line, source_line, step_line, end_line}
use Rattle.report_text.proofs.CheckLines.{path_pieces}
use Rattle.std.proofs.lemmas.Result.{on_ok_weaker}
use Rattle.report_text.proofs.paths.push_path.Goals as goal

pub returns : goal.returns
returns c =
    let d = c.args.design.now in
    let w = c.args.worst.now in
    let wire : SFits w64 w.wire = search rules in
    on_ok_weaker c.push_end.result (λ last.
    path_pieces _ _ _ _ _ (worst_line d w.slack) (source_line d w.path) (end_line w.wire) (map (step_line d) w.path.steps)
    c.in_ok-push_worst.ensures c.in_ok-push_source.ensures
    (c.in_ok-push_steps.ensures ∙ ap (λ steps. c.push_source.new.out.items ++ text_of (map (step_line d) steps)) c.as_slice.ensures)
    (last ∙ ap (λ x. c.push_steps.new.out.items ++ line_text (end_line x)) (to_z-of_z w64 w.wire wire))) c.push_end.ensures
