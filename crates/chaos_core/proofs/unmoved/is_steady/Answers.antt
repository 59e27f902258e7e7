use Rattle.std.proofs.Common.{◌≡◌, subst, arith}
use Rattle.net_eval.specs.Closing.{IsSteadyAt}
use Rattle.chaos_core.proofs.unmoved.is_steady.Goals as goal

pub returns : goal.returns
returns c = (
  λ t. c.closed_part_grouped.ensures.0 t c.args.net (omega arith) (let e = c.requires.next in omega (arith, e)),
  λ h. c.closed_part_grouped.ensures.1 (λ n low high. let e = c.requires.next in let same : c.args.net ≡ n = omega (arith, e, low, high) in subst (λ m. IsSteadyAt c.args.design.now c.args.windows.now m) same h),
)
