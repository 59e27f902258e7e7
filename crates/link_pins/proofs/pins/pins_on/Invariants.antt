use Rattle.std.proofs.Common.{◌≡◌, map, take, Some}
use Rattle.link_rules.specs.Pins.{pins_from}
use Rattle.std.specs.List.{All}
use Rattle.link_pins.specs.Places.{IsPlaced}
use Rattle.link_pins.specs.Seen.{connected_at}
use Rattle.link_pins.proofs.pins.pins_on.Given as goal

abbrev pub invariant-loop-number : goal.invariant-loop-number
invariant-loop-number l = record {
  all : map (connected_at l.cells l.nets) l.pins.items ≡ map Some (pins_from l.cells l.nets 0 (take l.number l.nets.instances));
  placed : All (IsPlaced l.cells l.nets) l.pins.items;
}
