use Rattle.elmore_tree.specs.Gathering.{IsGathered, AreSumsOf}
use Rattle.elmore_tree.proofs.sums.elmore_sums.Given as goal

abbrev pub invariant-loop-index : goal.invariant-loop-index
invariant-loop-index l = IsGathered l.tree l.steps l.fn.caps.items l.caps.items l.index

abbrev pub invariant-loop-step : goal.invariant-loop-step
invariant-loop-step l = AreSumsOf l.tree l.steps l.fn.caps.items l.sums.items l.step-index
