use Rattle.std.proofs.Common.{◌≡◌, ◌++◌, true, false, refl, sym, ap, ◌∙◌, rules, w64}
use Rattle.std.specs.Fmt.{signed_decimal}
use Rattle.std.proofs.lemmas.Int.{to_z-of_z}
use mir.Val.{SFits}
use Rattle.xt_model.specs.Quads.{is_live}
use Rattle.linked_text.proofs.Pieces.{live_line, quiet_line}
use Rattle.text_lines.proofs.Pieces.{field_then, field_last}
use Rattle.std.proofs.lemmas.Result.{on_ok_weaker}
use Rattle.linked_text.proofs.write_net.push_given.Goals as goal

pub returns-then-not-live : goal.returns-then-not-live
returns-then-not-live c =
    let dead : is_live c.args.quad.now ≡ false = search rules in
    on_ok_weaker c.push_word-then-not-live.result (λ last.
    field_then _ _ _ _ _ _ _ c.edge_word.ensures c.in_ok-push_word.ensures
    (field_last _ _ _ _ _ refl last)
    ∙ ap (λ text. c.args.out.now.items ++ text) (sym (quiet_line c.args.edge c.args.quad.now dead))) c.push_word-then-not-live.ensures

pub returns : goal.returns
returns c =
    let q = c.args.quad.now in
    let live : is_live q ≡ true = search rules in
    let tlo : SFits w64 q.tlo = search rules in
    let thi : SFits w64 q.thi = search rules in
    let slo : SFits w64 q.slo = search rules in
    let shi : SFits w64 q.shi = search rules in
    on_ok_weaker c.push_number-4.result (λ last.
    field_then _ _ _ _ _ _ _ c.edge_word.ensures c.in_ok-push_word.ensures
    (field_then _ _ _ _ _ _ _ (ap signed_decimal (to_z-of_z w64 q.tlo tlo)) c.in_ok-push_number.ensures
    (field_then _ _ _ _ _ _ _ (ap signed_decimal (to_z-of_z w64 q.thi thi)) c.in_ok-push_number-2.ensures
    (field_then _ _ _ _ _ _ _ (ap signed_decimal (to_z-of_z w64 q.slo slo)) c.in_ok-push_number-3.ensures
    (field_last _ _ _ _ _ (ap signed_decimal (to_z-of_z w64 q.shi shi)) last))))
    ∙ ap (λ text. c.args.out.now.items ++ text) (sym (live_line c.args.edge q live))) c.push_number-4.ensures
