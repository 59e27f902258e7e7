use Rattle.envelope.proofs.Anew.{IsRenewal}
use Rattle.envelope.proofs.renewal.renewed.Given as goal

abbrev pub invariant-loop-net : goal.invariant-loop-net
invariant-loop-net l = IsRenewal l.design l.fn.first.0 l.fn.second.0 l.fn.old l.net-items l.windows l.kept.items l.net-index
