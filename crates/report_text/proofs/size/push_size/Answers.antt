use Rattle.std.proofs.Common.{refl, ap, length}
use Rattle.std.specs.Fmt.{decimal}
use Rattle.report_text.proofs.Bound.{bound_is}
use Rattle.text_lines.proofs.Pieces.{field_then, field_last}
use Rattle.std.proofs.lemmas.Result.{on_ok_weaker}
use Rattle.report_text.proofs.size.push_size.Goals as goal

pub returns : goal.returns
returns c =
    on_ok_weaker c.push_number-5.result (λ last.
    field_then _ _ _ _ _ _ _ refl c.in_ok-push_word.ensures
    (field_then _ _ _ _ _ _ _ (ap (λ nets. decimal (length nets)) c.nets.ensures.value) c.in_ok-push_number.ensures
    (field_then _ _ _ _ _ _ _ refl c.in_ok-push_word-2.ensures
    (field_then _ _ _ _ _ _ _ (ap decimal c.coupling_count.ensures) c.in_ok-push_number-2.ensures
    (field_then _ _ _ _ _ _ _ refl c.in_ok-push_word-3.ensures
    (field_then _ _ _ _ _ _ _ refl c.in_ok-push_number-3.ensures
    (field_then _ _ _ _ _ _ _ refl c.in_ok-push_word-4.ensures
    (field_then _ _ _ _ _ _ _ refl c.in_ok-push_number-4.ensures
    (field_then _ _ _ _ _ _ _ refl c.in_ok-push_word-5.ensures
    (field_last _ _ _ _ _ (ap decimal (bound_is c.args.design.now.nets c.args.pairs c.args.levels c.bound.result c.requires.pairs c.requires.levels c.bound.ensures.value)) last)))))))))) c.push_number-5.ensures
