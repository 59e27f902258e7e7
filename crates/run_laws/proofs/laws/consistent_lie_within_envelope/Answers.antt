use Rattle.run_laws.proofs.Hulls.{within_envelope}
use Rattle.run_laws.proofs.laws.consistent_lie_within_envelope.Goals as goal

pub returns : goal.returns
returns c = λ d ls top xs s l w c. within_envelope d ls top xs s l w c
