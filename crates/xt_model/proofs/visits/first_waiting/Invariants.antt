use Rattle.std.proofs.Common.{take}
use Rattle.xt_model.specs.visits.Walk.{HaveLevels}
use Rattle.xt_model.proofs.visits.first_waiting.Given as goal

abbrev pub invariant-loop-i : goal.invariant-loop-i
invariant-loop-i l = HaveLevels l.levels (take l.i l.arcs)
