use Rattle.std.proofs.Common.{◌≡◌, length}
use Rattle.linked_text.specs.Meaning.{nets_at, nets_behind}
use Rattle.linked_text.proofs.bodies.nets.Given as goal

abbrev pub invariant-loop-head : goal.invariant-loop-head
invariant-loop-head l = nets_behind l.sinks l.tables l.nets.items l.heads.items l.rest.items ≡ nets_at l.sinks l.tables 0 l.fn.heads.items l.fn.bytes.items

abbrev pub decreases-loop-head : goal.decreases-loop-head
decreases-loop-head l = length l.heads.items
