use Rattle.std.proofs.Common.{refl, ap, rules, w64}
use Rattle.std.specs.Fmt.{signed_decimal}
use Rattle.std.proofs.lemmas.Int.{to_z-of_z}
use mir.Val.{SFits}
use Rattle.text_lines.proofs.Pieces.{field_then, field_last}
use Rattle.std.proofs.lemmas.Result.{on_ok_weaker}
use Rattle.linked_text.proofs.write_net.CouplingWriterWriter.write.Goals as goal

pub returns : goal.returns
returns c =
    let cap : SFits w64 c.args.coupling.now.cap = search rules in
    on_ok_weaker c.push_number-2.result (λ last.
    field_then _ _ _ _ _ _ _ refl c.in_ok-push_word.ensures
    (field_then _ _ _ _ _ _ _ refl c.in_ok-push_number.ensures
    (field_last _ _ _ _ _ (ap signed_decimal (to_z-of_z w64 c.args.coupling.now.cap cap)) last))) c.push_number-2.ensures
