use Rattle.std.proofs.Common.{◌≡◌, [], length}
use Rattle.std.specs.List.{All}
use Rattle.link_pins.specs.declared.sinks.NetSinks.{NetSinks}
use Rattle.link_pins.proofs.sinks.no_sinks.Given as goal

abbrev pub invariant-loop-count : goal.invariant-loop-count
invariant-loop-count l = record {
  count : length l.rows.items ≡ l.count-index;
  none : All (λ (row : NetSinks). row.sinks.items ≡ []) l.rows.items;
}
