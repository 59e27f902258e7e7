use Rattle.xtalk_top.proofs.solve.solve.Goals as goal

pub returns-clause-means : goal.returns-clause-means
returns-clause-means g c = c.report_of_text.ensures.means

pub returns-clause-opened : goal.returns-clause-opened
returns-clause-opened g c = c.report_of_text.ensures.opened

pub returns-clause-content : goal.returns-clause-content
returns-clause-content g c = c.report_of_text.ensures.content
