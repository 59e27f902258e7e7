use Rattle.std.proofs.Common.{refl, ap, length}
use Rattle.std.specs.Fmt.{decimal}
use Rattle.text_lines.proofs.Pieces.{field_then, field_last}
use Rattle.std.proofs.lemmas.Result.{on_ok_weaker}
use Rattle.linked_text.proofs.write.push_counts.Goals as goal

pub returns : goal.returns
returns c =
    on_ok_weaker c.push_number-3.result (λ last.
    field_then _ _ _ _ _ _ _ refl c.in_ok-push_word.ensures
    (field_then _ _ _ _ _ _ _ (ap (λ xs. decimal (length xs)) c.tables.ensures.value) c.in_ok-push_number.ensures
    (field_then _ _ _ _ _ _ _ (ap (λ xs. decimal (length xs)) c.nets.ensures.value) c.in_ok-push_number-2.ensures
    (field_last _ _ _ _ _ (ap (λ xs. decimal (length xs)) c.checks.ensures.value) last)))) c.push_number-3.ensures
