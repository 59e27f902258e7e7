-- The end of a run, from the clauses of the call that made it.
use Rattle.std.proofs.Common.{◌≡◌, ℕ, ◌≤◌, List}
use Rattle.std.specs.Prelude.{◌↔◌, IfOk, Result, Ok, Err}
use Rattle.xt_model.specs.declared.direction.Direction.{Direction}
use Rattle.xt_model.specs.declared.quad.Pair.{Pair}
use Rattle.xt_model.specs.Build.{IsRoundBound}
use Rattle.xt_model.specs.Parts.{Parts}
use Rattle.xt_meaning.specs.Fixpoint.{IsFixpoint}
use Rattle.xt_meaning.specs.Laws.{IsExtremeFixpoint}
use Rattle.chaos_core.specs.declared.settle.Settled.{Settled}
use Rattle.xtalk_top.specs.declared.runs.Turns.{Turns}
use Rattle.xtalk_top.specs.declared.runs.Turns.TheVariants.{InThreads}
use Rattle.xtalk_top.specs.Runs.{most_rounds, IsEndOf}

-- a result that keeps each part of it
pub ends : {E : Type 0} (r : Result Settled E) (way : Direction) (d : Parts) (turns : Turns) (start : List Pair) → IfOk r (λ s. IsExtremeFixpoint way d s.windows)
    → IfOk r (λ s. turns ≡ InThreads → (s.rounds ≡ 0) ↔ IsFixpoint d start) → IfOk r (λ s. (bound : ℕ) → IsRoundBound d.nets bound → s.rounds ≤ most_rounds turns bound)
    → IfOk r (IsEndOf way d turns start)
ends (Ok s) way d turns start extreme closed few = record { extreme = extreme; closed = closed; few = few }
ends (Err e) way d turns start extreme closed few = tt
