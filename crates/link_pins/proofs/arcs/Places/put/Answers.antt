use Rattle.std.proofs.Common.{refl}
use Rattle.link_pins.proofs.IndexLaws.{put_listed}
use Rattle.link_pins.proofs.arcs.Places.put.Goals as goal

pub returns-clause-listed : goal.returns-clause-listed
returns-clause-listed c = put_listed c.args.self.now _ c.args.pin c.args.sink c.requires.room refl c.in_ok-push.ensures.items
