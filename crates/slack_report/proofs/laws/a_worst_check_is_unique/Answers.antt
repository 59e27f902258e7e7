use Rattle.slack_report.proofs.OneWorst.{one_place, one_worst, none_or_worst}
use Rattle.slack_report.proofs.laws.a_worst_check_is_unique.Goals as goal

pub returns : goal.returns
returns c = record { place = one_place; check = one_worst; none = none_or_worst }
