use Rattle.std.proofs.Common.{refl, ap, rules, w64}
use Rattle.std.specs.Fmt.{decimal, signed_decimal}
use Rattle.std.proofs.lemmas.Int.{to_z-of_z}
use mir.Val.{SFits}
use Rattle.text_lines.proofs.Pieces.{field_then, field_last}
use Rattle.std.proofs.lemmas.Result.{on_ok_weaker}
use Rattle.linked_text.proofs.write_net.HeadWriterWriter.write.Goals as goal

pub returns : goal.returns
returns c =
    let load : SFits w64 c.args.net.now.load = search rules in
    on_ok_weaker c.push_number-4.result (λ last.
    field_then _ _ _ _ _ _ _ refl c.in_ok-push_word.ensures
    (field_then _ _ _ _ _ _ _ c.bytes.ensures.value c.in_ok-push_word-2.ensures
    (field_then _ _ _ _ _ _ _ c.kind_word.ensures c.in_ok-push_word-3.ensures
    (field_then _ _ _ _ _ _ _ (ap signed_decimal (to_z-of_z w64 c.args.net.now.load load)) c.in_ok-push_number.ensures
    (field_then _ _ _ _ _ _ _ (ap decimal c.len.ensures) c.in_ok-push_number-2.ensures
    (field_then _ _ _ _ _ _ _ (ap decimal c.len-2.ensures) c.in_ok-push_number-3.ensures
    (field_last _ _ _ _ _ (ap decimal c.len-3.ensures) last))))))) c.push_number-4.ensures
