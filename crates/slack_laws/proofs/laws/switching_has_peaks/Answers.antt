use Rattle.slack_laws.proofs.Switching.{switching_has_peaks}
use Rattle.slack_laws.proofs.laws.switching_has_peaks.Goals as goal

pub returns : goal.returns
returns c = switching_has_peaks
