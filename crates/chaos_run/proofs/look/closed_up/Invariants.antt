use Rattle.std.proofs.Common.{ℕ, ◌<◌, ◌≤◌}
use Rattle.net_eval.specs.Closing.{IsSteadyAt}
use Rattle.chaos_run.specs.Looks.{IsLookBetween}
use Rattle.chaos_run.proofs.look.closed_up.Given as goal

abbrev pub invariant-loop-net : goal.invariant-loop-net
invariant-loop-net l = record {
  look : IsLookBetween l.design l.windows l.from l.to l.marks;
  steady : (n : ℕ) → l.from ≤ n → n < l.net → IsSteadyAt l.design l.windows n;
}
