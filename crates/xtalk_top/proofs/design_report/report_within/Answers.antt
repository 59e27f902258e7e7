use Rattle.xtalk_top.proofs.design_report.report_within.Goals as goal

pub report_in-requires : goal.report_in-requires
report_in-requires g c = c.in-Ok.ensures

pub returns-in-Ok-clause-ok : goal.returns-in-Ok-clause-ok
returns-in-Ok-clause-ok g c = c.report_in.ensures.ok

pub returns-in-Ok-clause-stop : goal.returns-in-Ok-clause-stop
returns-in-Ok-clause-stop g c = c.report_in.ensures.stop
