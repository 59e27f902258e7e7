use Rattle.report_text.proofs.OneReport.{one_report_of, one_report}
use Rattle.report_text.proofs.laws.a_report_is_unique.Goals as goal

pub returns : goal.returns
returns c = record { in_windows = one_report_of; in_fixpoints = one_report }
