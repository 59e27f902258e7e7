use Rattle.std.proofs.Common.{◌≡◌, [], length}
use Rattle.std.specs.List.{All}
use Rattle.link_pins.proofs.timings.no_timings.Given as goal

abbrev pub invariant-loop : goal.invariant-loop
invariant-loop l = record {
  count : length l.rows.items ≡ l.counter;
  arcs : All (λ row. row.arcs.items ≡ []) l.rows.items;
}
