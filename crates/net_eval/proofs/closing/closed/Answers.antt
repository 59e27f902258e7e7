use Rattle.std.proofs.Common.{arith}
use Rattle.net_eval.proofs.Steady.{steady_all}
use Rattle.net_eval.proofs.closing.closed.Goals as goal

pub returns : goal.returns
returns c = (
  λ t. steady_all c.args.design.now c.args.windows.now c.requires.count (λ n h. c.closed_part.ensures.0 t n (omega arith) (rw c.nets.ensures.value h)),
  λ h. c.closed_part.ensures.1 (λ n low high. record { fixed = h n }),
)
