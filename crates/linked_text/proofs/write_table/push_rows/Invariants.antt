use Rattle.std.proofs.Common.{◌≡◌, ◌++◌, ◌-◌, ◌*◌, length}
use Rattle.text_lines.specs.Lines.{text_of}
use Rattle.linked_text.specs.Linked.{row_lines}
use Rattle.linked_text.proofs.write_table.push_rows.Given as goal

abbrev pub invariant-loop : goal.invariant-loop
invariant-loop l =
    (length l.rest ≡ (l.count - l.counter) * l.columns)
    × (l.out.items ++ text_of (row_lines (l.count - l.counter) l.columns l.rest) ≡ l.initial.out.items ++ text_of (row_lines l.count l.columns l.values))
