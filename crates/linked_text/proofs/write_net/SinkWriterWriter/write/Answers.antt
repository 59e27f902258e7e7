use Rattle.std.proofs.Common.{refl, ap, rules}
use Rattle.std.specs.Int.{w128}
use Rattle.std.specs.Fmt.{signed_decimal}
use Rattle.std.proofs.lemmas.Int.{to_z-of_z}
use mir.Val.{SFits}
use Rattle.linked_text.proofs.Pieces.{numbers_then}
use Rattle.text_lines.proofs.Pieces.{field_then}
use Rattle.linked_text.proofs.write_net.SinkWriterWriter.write.Goals as goal

pub returns : goal.returns
returns c =
    let base : SFits w128 c.args.sink.now.base = search rules in
    field_then _ _ _ _ _ _ _ refl c.in_ok-push_word.ensures
    (field_then _ _ _ _ _ _ _ c.bytes.ensures.value c.in_ok-push_word-2.ensures
    (numbers_then _ _ _ _ _ _ _ _ (ap signed_decimal (to_z-of_z w128 c.args.sink.now.base base)) c.as_slice.ensures
    c.in_ok-push_bare_number.ensures c.in_ok-write_each.ensures c.in_ok-push.ensures.items))
