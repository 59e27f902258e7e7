use Rattle.std.proofs.Common.{◌≡◌, take}
use Rattle.xt_model.specs.Assign.{assigned}
use Rattle.glitch_noise.specs.Changes.{changes_of}
use Rattle.glitch_noise.proofs.changes.fill.Given as goal

abbrev pub invariant-loop-coupling : goal.invariant-loop-coupling
invariant-loop-coupling l = l.changes.items ≡ changes_of l.design.period (assigned l.high) l.edge (take l.coupling-index l.coupling-items)
