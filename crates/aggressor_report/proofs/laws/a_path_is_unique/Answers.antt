use Rattle.aggressor_report.proofs.OnePath.{one_path}
use Rattle.aggressor_report.proofs.laws.a_path_is_unique.Goals as goal

pub returns : goal.returns
returns c = one_path
