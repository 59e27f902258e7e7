use Rattle.xtalk_top.proofs.top.xtalk.Goals as goal

pub returns-clause-printed : goal.returns-clause-printed
returns-clause-printed g c = c.xtalk_gated.ensures.call.printed

pub returns-clause-failed : goal.returns-clause-failed
returns-clause-failed g c = c.xtalk_gated.ensures.call.failed

pub returns-clause-kept : goal.returns-clause-kept
returns-clause-kept g c = c.xtalk_gated.ensures.call.kept

pub returns-clause-refused : goal.returns-clause-refused
returns-clause-refused g c = c.xtalk_gated.ensures.call.refused

pub returns-clause-complete : goal.returns-clause-complete
returns-clause-complete g c = c.xtalk_gated.ensures.call.complete

pub returns-clause-opened : goal.returns-clause-opened
returns-clause-opened g c = c.xtalk_gated.ensures.opened

pub returns-clause-only : goal.returns-clause-only
returns-clause-only g c = c.xtalk_gated.ensures.call.only

pub returns-clause-content : goal.returns-clause-content
returns-clause-content g c = c.xtalk_gated.ensures.content
