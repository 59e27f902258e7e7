use Rattle.std.proofs.Common.{◌≡◌, ◌≤◌, length, drop}
use Rattle.sdc_read.specs.Levels.{levels_of}
use Rattle.sdc_read.proofs.levels.Levels.of.Given as goal

abbrev pub invariant-said : goal.invariant-said
invariant-said l =
    (l.levels ≡ record { said = l.fn.said; levels = levels_of l.nets (drop l.number l.fn.said) }) × (l.number ≤ length l.fn.said)

abbrev pub decreases-said : goal.decreases-said
decreases-said l = l.number
