use Rattle.std.proofs.Common.{ℕ, ◌-◌, ◌<◌, ◌≤◌}
use Rattle.net_eval.specs.Closing.{IsSteadyAt}
use Rattle.chaos_run.specs.Looks.{IsLookBetween}
use Rattle.chaos_run.proofs.look.closed_down.Given as goal

abbrev pub invariant-loop-step : goal.invariant-loop-step
invariant-loop-step l = record {
  look : IsLookBetween l.design l.windows l.from l.to l.marks;
  steady : (n : ℕ) → l.to - (l.step - l.from) ≤ n → n < l.to → IsSteadyAt l.design l.windows n;
}
