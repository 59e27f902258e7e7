use Rattle.std.proofs.Common.{◌≡◌, codes, ◌∷◌, [], ◌∙◌, to_z, of_z, rules}
use Rattle.std.specs.Int.{w128}
use Rattle.std.proofs.lemmas.Int.{to_z-of_z}
use Rattle.report_text.specs.Report.{size_line}
use Rattle.report_text.specs.Summary.{count_line}
use Rattle.report_text.proofs.Widths.{summary_pieces}
use Rattle.std.proofs.lemmas.Result.{on_ok_weaker}
use Rattle.report_text.proofs.summary.push_summary.Goals as goal

pub returns : goal.returns
returns c = λ edges guilty is.
    let least : to_z w128 (of_z w128 c.args.tally.now.least) ≡ c.args.tally.now.least = search (rules, to_z-of_z) in
    let greatest : to_z w128 (of_z w128 c.args.tally.now.greatest) ≡ c.args.tally.now.greatest = search (rules, to_z-of_z) in
    on_ok_weaker c.push_word.result (λ last.
    summary_pieces _ _ _ _ _ _ _ (codes "xtalk" ∷ codes "gen" ∷ codes "1" ∷ []) (size_line c.args.design.now c.args.pairs c.args.levels) (count_line edges guilty)
    _ _ _ _ c.in_ok-push_title.ensures c.in_ok-push_size.ensures (c.in_ok-push_counts.ensures edges guilty is)
    c.in_ok-push_total.ensures (least ∙ is.least) c.in_ok-push_total-2.ensures (greatest ∙ is.greatest) last) c.push_word.ensures
