use Rattle.std.proofs.Common.{◌≡◌, ℕ, ◌+◌, ◌-◌, length}
use Rattle.link_pins.specs.Known.{known}
use Rattle.link_pins.proofs.known.Known.grow.Given as goal

abbrev pub invariant-room : goal.invariant-room
invariant-room g l = (n c f : ℕ) → known l.self.of.items n c f ≡ known l.initial.self.of.items n c f

abbrev pub decreases-room : goal.decreases-room
decreases-room g l = l.number + 1 - length l.self.of.items
