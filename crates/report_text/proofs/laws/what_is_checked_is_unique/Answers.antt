use Rattle.report_text.proofs.OneReport.{one_checked}
use Rattle.report_text.proofs.laws.what_is_checked_is_unique.Goals as goal

pub returns : goal.returns
returns c = one_checked
