use Rattle.std.proofs.Common.{◌≡◌, ◌≤◌, length, drop}
use Rattle.sdc_read.specs.Levels.{set_by}
use Rattle.sdc_read.proofs.mentions.set_by.Given as goal

abbrev pub invariant-said : goal.invariant-said
invariant-said l = (l.set ≡ set_by l.nets l.at (drop l.place l.said)) × (l.place ≤ length l.said)

abbrev pub decreases-said : goal.decreases-said
decreases-said l = l.place
