use Rattle.report_text.proofs.Bound.{depth_is_one}
use Rattle.report_text.proofs.laws.a_depth_is_unique.Goals as goal

pub returns : goal.returns
returns c = depth_is_one
