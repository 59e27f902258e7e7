use Rattle.std.proofs.Common.{◌≤◌, ◌-◌, length, take}
use Rattle.link_rules.specs.Pins.{pins}
use Rattle.link_pins.specs.Joined.{AreCounted}
use Rattle.link_pins.specs.Known.{AreBefore, AreRight, IsCount}
use Rattle.link_pins.specs.Places.{AreListed, HasRoom, IsClear}
use Rattle.link_pins.proofs.OrderLaws.{IsBoundary}
use Rattle.link_pins.proofs.counts.counts_of.Given as goal

abbrev pub invariant-loop-k : goal.invariant-loop-k
invariant-loop-k l = record {
  counted : AreCounted l.cells l.nets (take l.k (pins l.cells l.nets)) l.counts;
  known : AreRight (IsCount l.places.at.items) l.related.cells.items l.places.from l.known.of.items;
}

abbrev pub invariant-instances : goal.invariant-instances
invariant-instances l = record {
  within : l.from ≤ length l.pins;
  boundary : IsBoundary l.cells l.nets l.from;
  room : HasRoom l.cells l.places.at.items;
  clear : IsClear l.places.at.items;
  listed : AreListed l.places;
  known : AreBefore l.from l.known.of.items;
  counted : AreCounted l.cells l.nets (take l.from (pins l.cells l.nets)) l.counts;
}

abbrev pub decreases-instances : goal.decreases-instances
decreases-instances l = length l.pins - l.from
