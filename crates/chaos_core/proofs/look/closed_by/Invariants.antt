use Rattle.std.proofs.Common.{ℕ, ◌<◌, ◌≤◌}
use Rattle.xt_meaning.specs.Words.{numbers_of}
use Rattle.net_eval.specs.Closing.{IsSteadyAt}
use Rattle.chaos_core.specs.TurnMarks.{AreMarks}
use Rattle.chaos_core.proofs.look.closed_by.Given as goal

abbrev pub invariant-loop-net : goal.invariant-loop-net
invariant-loop-net l = record {
  marks : AreMarks l.design (numbers_of l.windows) l.marks;
  steady : (n : ℕ) → 0 ≤ n → n < l.net → IsSteadyAt l.design l.windows n;
}
