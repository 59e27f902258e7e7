use Rattle.std.proofs.Common.{◌≡◌, ◌≤◌, ◌+◌, [], length, take, drop}
use Rattle.liberty_tables.specs.Contents.{items_from}
use Rattle.liberty_tables.proofs.items.first_item.Given as goal

abbrev pub invariant-bytes : goal.invariant-bytes
invariant-bytes l = record {
  room : l.size + length l.rest ≤ length l.bytes;
  within : l.size ≤ length l.start;
  cut : drop l.size l.start ≡ l.rest;
  items : items_from l.commas (take l.size l.start) l.rest ≡ items_from l.commas [] l.bytes;
}

abbrev pub decreases-bytes : goal.decreases-bytes
decreases-bytes l = length l.rest
