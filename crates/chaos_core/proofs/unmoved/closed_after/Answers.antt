use Rattle.std.proofs.Common.{arith}
use Rattle.net_eval.proofs.Steady.{steady_all}
use Rattle.chaos_core.proofs.unmoved.closed_after.Goals as goal

pub closed_where_grouped-requires-clause-look : goal.closed_where_grouped-requires-clause-look
closed_where_grouped-requires-clause-look c = record {
  windows = c.requires.after;
  count = c.mark_decided.ensures.decided.count;
  steady = λ net there marked. c.requires.kept net (c.mark_decided.ensures.decided.alike net marked);
}

pub returns-clause-closed : goal.returns-clause-closed
returns-clause-closed c = (
  λ t. steady_all c.args.design.now c.args.after.now c.requires.after.count (λ n h. c.closed_where_grouped.ensures.0 t n (omega arith) (rw c.nets.ensures.value h)),
  λ h. c.closed_where_grouped.ensures.1 (λ n low high. record { fixed = h n }),
)
