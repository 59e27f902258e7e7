use Rattle.std.proofs.Common.{◌≡◌, ◌≤◌, ◌+◌, [], length, take, drop}
use Rattle.sdc_words.specs.Items.{items_from}
use Rattle.sdc_words.proofs.items.first_item.Given as goal

abbrev pub invariant-bytes : goal.invariant-bytes
invariant-bytes l = record {
  room : l.size + length l.rest ≤ length l.bytes;
  within : l.size ≤ length l.start;
  cut : drop l.size l.start ≡ l.rest;
  items : items_from (take l.size l.start) l.rest ≡ items_from [] l.bytes;
}

abbrev pub decreases-bytes : goal.decreases-bytes
decreases-bytes l = length l.rest
