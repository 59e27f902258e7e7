use Rattle.run_laws.proofs.Hulls.{within_greatest}
use Rattle.run_laws.proofs.laws.consistent_lie_within_greatest.Goals as goal

pub returns : goal.returns
returns c = λ d ls top high xs s l e g c. within_greatest d ls top high xs s l e g c
