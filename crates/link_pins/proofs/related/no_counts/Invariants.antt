use Rattle.std.proofs.Common.{take}
use Rattle.std.specs.List.{All}
use Rattle.link_pins.specs.Related.{ArePinsOf, IsUncounted}
use Rattle.link_pins.proofs.related.no_counts.Given as goal

abbrev pub invariant-loop-pin : goal.invariant-loop-pin
invariant-loop-pin l = record {
  pins : ArePinsOf l.counts.items (take l.pin-index l.pins);
  none : All IsUncounted l.counts.items;
}
