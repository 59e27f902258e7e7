use Rattle.std.proofs.Common.{◌++◌, ◌∷◌, ap, ◌∙◌, refl}
use Rattle.text_lines.specs.Lines.{text_of}
use Rattle.text_lines.specs.Miller.{miller_lines}
use Rattle.report_text.specs.Report.{title_line, size_line, clock_line}
use Rattle.report_text.proofs.Pieces.{head_pieces}
use Rattle.std.proofs.lemmas.Result.{on_ok_weaker}
use Rattle.report_text.proofs.report.push_head.Goals as goal

pub returns : goal.returns
returns c =
    let d = c.args.design.now in
    let size = size_line d c.pairs.result c.levels.result in
    on_ok_weaker c.push_miller.result (λ last. (
      title_line ∷ size ∷ clock_line d ∷ miller_lines d.miller,
      record {
        pairs = c.pairs.result;
        depth = c.levels.result;
        is_pairs = c.pairs.ensures;
        is_depth = c.levels.ensures;
        written = refl;
      },
      head_pieces _ _ _ _ _ title_line size (clock_line d) (miller_lines d.miller)
          c.in_ok-push_title.ensures c.in_ok-push_size.ensures c.in_ok-push_clock.ensures
          (last ∙ ap (λ m. c.push_clock.new.out.items ++ text_of (miller_lines m)) c.miller.ensures.value),
    )) c.push_miller.ensures
