use Rattle.xt_meaning.proofs.Starts.{envelope_fits}
use Rattle.xt_meaning.proofs.laws.envelope_fits_narrowing.Goals as goal

pub returns : goal.returns
returns c = λ d levels top s l env acc. envelope_fits d levels top s l env acc
