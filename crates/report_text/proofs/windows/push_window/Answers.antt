use Rattle.std.proofs.Common.{◌≡◌, true, ◌++◌, refl, sym, ap, ◌∙◌, rules}
use Rattle.xt_model.specs.Quads.{is_live}
use Rattle.report_text.proofs.Lines.{piece_then}
use Rattle.text_lines.proofs.Pieces.{field_then}
use Rattle.report_text.proofs.Pieces.{window_live}
use Rattle.std.proofs.lemmas.Result.{on_ok_weaker}
use Rattle.report_text.proofs.windows.push_window.Goals as goal

pub returns : goal.returns
returns c =
    let live : is_live c.args.high.now ≡ true = search rules in
    on_ok_weaker c.push_quad-2.result (λ last.
    field_then _ _ _ _ _ _ _ refl c.in_ok-push_word.ensures
    (field_then _ _ _ _ _ _ _ refl c.in_ok-push_word-2.ensures
    (field_then _ _ _ _ _ _ _ c.edge_word.ensures c.in_ok-push_word-3.ensures
    (field_then _ _ _ _ _ _ _ refl c.in_ok-push_word-4.ensures
    (piece_then _ _ _ _ _ c.in_ok-push_quad.ensures
    (field_then _ _ _ _ _ _ _ refl c.in_ok-push_word-5.ensures last)))))
    ∙ ap (λ text. c.args.out.now.items ++ text) (sym (window_live c.args.name.now c.args.edge c.args.low.now c.args.high.now live))) c.push_quad-2.ensures
