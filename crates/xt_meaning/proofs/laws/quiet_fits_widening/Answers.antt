use Rattle.xt_meaning.proofs.Starts.{quiet_fits}
use Rattle.xt_meaning.proofs.laws.quiet_fits_widening.Goals as goal

pub returns : goal.returns
returns c = λ d top s env acc. quiet_fits d top s env acc
