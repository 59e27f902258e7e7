use Rattle.std.proofs.Common.{sym, subst}
use Rattle.std.specs.List.{All}
use Rattle.xt_model.specs.Assign.{assigned}
use Rattle.slack_report.specs.Points.{IsAtPoint}
use Rattle.slack_report.proofs.Placed.{all_placed}
use Rattle.slack_report.proofs.slack.slacks.Goals as goal

pub returns-clause-points : goal.returns-clause-points
returns-clause-points c =
    subst (All (IsAtPoint c.args.design.now (assigned c.args.high.now))) (sym c.in_ok-all.ensures) (all_placed c.args.design.now (assigned c.args.low.now) (assigned c.args.high.now))
