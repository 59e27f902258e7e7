use Rattle.slack_laws.proofs.Listed.{leave_slack, leave_slacks, not_below, not_below_kind}
use Rattle.slack_laws.proofs.laws.consistent_keep_checks.Goals as goal

pub returns : goal.returns
returns c = record {
  slack = λ d levels top high xs i p e left s l t g why there leave. leave_slack d levels top high xs i p e left s l t g why leave;
  slacks = λ d levels top low high xs i p e left s l t least g why there leave. leave_slacks d levels top high xs i p e left s l t g why low least there leave;
  kept = λ d levels top low high xs i p e s l t least g why there all left leave. not_below d levels top high xs i p e left s l t g why low least there all leave;
  kinds = λ d levels top low high xs i p e s l t least g why there met left leave. not_below_kind d levels top high xs i p e left s l t g why low least there met leave;
}
