use Rattle.slack_report.proofs.Worsts.{IsWorstBefore}
use Rattle.slack_report.proofs.kinds.worst.Given as goal

abbrev pub invariant-loop-slack : goal.invariant-loop-slack
invariant-loop-slack l = IsWorstBefore l.design l.hold l.slacks l.slack-index l.worst
