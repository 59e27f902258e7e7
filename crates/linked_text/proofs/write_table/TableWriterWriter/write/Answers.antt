use Rattle.std.proofs.Common.{refl}
use Rattle.linked_text.proofs.Pieces.{table_pieces}
use Rattle.text_lines.proofs.Pieces.{field_then, field_last}
use Rattle.std.proofs.lemmas.Result.{on_ok_weaker}
use Rattle.linked_text.proofs.write_table.TableWriterWriter.write.Goals as goal

pub returns : goal.returns
returns c =
    on_ok_weaker c.push_rows.result (λ last.
    table_pieces c.args.table.now _ _ _ _ _ _ _ _ c.slews-slews.ensures.value c.loads-loads.ensures.value c.values.ensures.value
    (field_then _ _ _ _ _ _ _ refl c.in_ok-push_word.ensures
    (field_then _ _ _ _ _ _ _ refl c.in_ok-push_number.ensures
    (field_last _ _ _ _ _ refl c.in_ok-push_number-2.ensures)))
    c.in_ok-push_numbers.ensures c.in_ok-push_numbers-2.ensures last) c.push_rows.ensures
