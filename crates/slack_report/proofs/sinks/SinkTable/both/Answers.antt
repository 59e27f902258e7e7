use Rattle.xt_model.specs.Assign.{assigned}
use Rattle.slack_report.proofs.Kept.{found_there, kept_more}
use Rattle.slack_report.proofs.sinks.SinkTable.both.Goals as goal

pub returns-in-Some-clause-there : goal.returns-in-Some-clause-there
returns-in-Some-clause-there c =
    found_there c.args.design.now (assigned c.args.windows.now) c.args.self.now.kept c.args.place _ c.requires.only c.in-Some.ensures.value

pub returns-clause-only : goal.returns-clause-only
returns-clause-only c =
    kept_more c.args.design.now (assigned c.args.windows.now) c.args.self.now.kept c.insert.new.self c.args.place c.at-found.result c.in_ok-insert.ensures.updates c.at-found.ensures c.requires.only
