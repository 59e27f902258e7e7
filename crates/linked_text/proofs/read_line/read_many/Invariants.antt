use Rattle.std.proofs.Common.{◌≡◌}
use Rattle.linked_text.specs.Meaning.{many_at, with_front}
use Rattle.linked_text.proofs.read_line.read_many.Given as goal

abbrev pub invariant-loop-left : goal.invariant-loop-left
invariant-loop-left g l = with_front l.values.items (many_at (g.R.FrontReader.at l.reader) l.left l.rest) ≡ many_at (g.R.FrontReader.at l.reader) l.count l.bytes

abbrev pub decreases-loop-left : goal.decreases-loop-left
decreases-loop-left g l = l.left
