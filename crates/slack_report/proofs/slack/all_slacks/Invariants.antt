use Rattle.std.proofs.Common.{◌≡◌, ◌++◌, map, drop}
use Rattle.xt_model.specs.Assign.{assigned}
use Rattle.slack_report.specs.Checks.{checks_from}
use Rattle.slack_report.specs.Kept.{KeepsOnly}
use Rattle.slack_report.specs.Slacks.{slack_of}
use Rattle.slack_report.proofs.slack.all_slacks.Given as goal

abbrev pub invariant-loop-number : goal.invariant-loop-number
invariant-loop-number l = record {
  so_far : l.all.items ++ map (slack_of l.design (assigned l.low) (assigned l.high)) (checks_from l.number (drop l.number l.points))
      ≡ map (slack_of l.design (assigned l.low) (assigned l.high)) (checks_from 0 l.points);
  low_only : KeepsOnly l.design (assigned l.low) l.low_sinks;
  high_only : KeepsOnly l.design (assigned l.high) l.high_sinks;
}
