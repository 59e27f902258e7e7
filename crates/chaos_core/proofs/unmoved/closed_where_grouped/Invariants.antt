use Rattle.std.proofs.Common.{ℕ, ◌-◌, ◌<◌, ◌≤◌}
use Rattle.net_eval.specs.Closing.{IsSteadyAt}
use Rattle.chaos_core.proofs.unmoved.closed_where_grouped.Given as goal

abbrev pub invariant-loop-step : goal.invariant-loop-step
invariant-loop-step l = (n : ℕ) → l.to - (l.step - l.from) ≤ n → n < l.to → IsSteadyAt l.design l.windows n
