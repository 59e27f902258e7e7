use Rattle.std.proofs.Common.{refl, ap}
use Rattle.std.specs.Fmt.{decimal}
use Rattle.text_lines.proofs.Pieces.{field_then, field_last}
use Rattle.std.proofs.lemmas.Result.{on_ok_weaker}
use Rattle.report_text.proofs.summary.push_counts.Goals as goal

pub returns : goal.returns
returns c = λ edges guilty is.
    on_ok_weaker c.push_number-3.result (λ last.
    field_then _ _ _ _ _ _ _ refl c.in_ok-push_word.ensures
    (field_then _ _ _ _ _ _ _ (ap decimal is.live) c.in_ok-push_number.ensures
    (field_then _ _ _ _ _ _ _ refl c.in_ok-push_word-2.ensures
    (field_then _ _ _ _ _ _ _ (ap decimal is.wider) c.in_ok-push_number-2.ensures
    (field_then _ _ _ _ _ _ _ refl c.in_ok-push_word-3.ensures
    (field_last _ _ _ _ _ (ap decimal is.guilty) last)))))) c.push_number-3.ensures
