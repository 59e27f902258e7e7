use Rattle.eco_warm.proofs.Arranged.{arranged}
use Rattle.eco_warm.proofs.laws.edits_order_operators.Goals as goal

pub returns : goal.returns
returns c = λ d e sound between allowed. arranged d e sound between allowed
