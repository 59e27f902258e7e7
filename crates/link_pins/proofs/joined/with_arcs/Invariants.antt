use Rattle.std.proofs.Common.{◌≡◌, ◌+◌, ◌++◌, drop, length, take}
use Rattle.std.specs.Vec.Iter.{into_iter_items, into_iter_len}
use Rattle.link_pins.specs.Joined.{with_rows}
use Rattle.link_pins.proofs.joined.with_arcs.Given as goal

abbrev pub invariant-nets : goal.invariant-nets
invariant-nets l = record {
  rest_count : into_iter_len l.rest ≡ length (into_iter_items l.rest);
  count : l.at + length (into_iter_items l.rest) ≡ length l.nets.items;
  made : take l.at l.nets.items ++ with_rows (drop l.at l.nets.items) (into_iter_items l.rest) ≡ with_rows l.fn.nets.items l.fn.rows.items;
}

abbrev pub decreases-nets : goal.decreases-nets
decreases-nets l = into_iter_len l.rest
