use Rattle.std.proofs.Common.{◌≡◌, length}
use Rattle.linked_text.specs.Fields.{each}
use Rattle.linked_text.proofs.Loop.{with_values}
use Rattle.linked_text.proofs.read_line.each_field.Given as goal

abbrev pub invariant-fields : goal.invariant-fields
invariant-fields g l = with_values l.values.items (each (g.R.FieldReader.of l.reader) l.left) ≡ each (g.R.FieldReader.of l.reader) l.fn.fields

abbrev pub decreases-fields : goal.decreases-fields
decreases-fields g l = length l.left
