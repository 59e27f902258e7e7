use Rattle.std.proofs.Common.{◌≡◌, ◌≤◌, ◌∷◌, length}
use Rattle.linked_text.specs.Meaning.{nets_behind}
use Rattle.linked_text.proofs.bodies.stretch.Given as goal

abbrev pub invariant-loop-head : goal.invariant-loop-head
invariant-loop-head l = record {
  whole : nets_behind l.sinks l.tables l.nets.items l.heads.items l.rest ≡ nets_behind l.sinks l.tables l.fn.nets.items (l.fn.head ∷ l.fn.heads.items) l.bytes;
  fewer : length l.heads.items ≤ length l.fn.heads.items;
}

abbrev pub decreases-loop-head : goal.decreases-loop-head
decreases-loop-head l = length l.heads.items
