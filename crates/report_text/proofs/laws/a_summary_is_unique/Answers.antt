use Rattle.report_text.proofs.OneReport.{one_summary}
use Rattle.report_text.proofs.laws.a_summary_is_unique.Goals as goal

pub returns : goal.returns
returns c = one_summary
