use Rattle.std.proofs.Common.{◌∙◌}
use Rattle.link_pins.proofs.KnownLaws.{known_push}
use Rattle.link_pins.proofs.known.Known.grow.Goals as goal

pub room-preserved : goal.room-preserved
room-preserved g c = λ n d f. known_push c.room.self.of.items c.push.new.self.items c.in_ok-push.ensures.items n d f ∙ c.room.invariant n d f

pub returns-clause-same : goal.returns-clause-same
returns-clause-same g c = c.room.invariant
