use Rattle.std.proofs.Common.{◌≡◌, ◌-◌}
use Rattle.linked_text.specs.Meaning.{rows_at, with_front}
use Rattle.linked_text.proofs.tables.rows.Given as goal

abbrev pub invariant-loop : goal.invariant-loop
invariant-loop l = with_front l.values.items (rows_at (l.count - l.counter) l.columns l.rest) ≡ rows_at l.count l.columns l.bytes
