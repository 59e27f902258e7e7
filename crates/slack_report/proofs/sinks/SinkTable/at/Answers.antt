use Rattle.xt_model.specs.Assign.{assigned}
use Rattle.slack_report.proofs.Kept.{edge_limits}
use Rattle.slack_report.proofs.sinks.SinkTable.at.Goals as goal

pub returns-clause-limits : goal.returns-clause-limits
returns-clause-limits c =
    edge_limits c.args.design.now (assigned c.args.windows.now) _ c.in_ok-both.both c.args.edge c.at_edge.result c.in_ok-both.ensures.there c.at_edge.ensures
