use Rattle.report_text.proofs.summary.summary_of.Goals as goal

pub returns : goal.returns
returns c = λ edges guilty is.
    let text = rw c.new-out.ensures.items at c.in_ok-push_summary.ensures edges guilty is in
    (c.pairs-pairs.result, c.levels-levels.result, c.pairs-pairs.ensures, c.levels-levels.ensures, text)
