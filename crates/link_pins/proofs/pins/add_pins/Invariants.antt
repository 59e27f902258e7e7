use Rattle.std.proofs.Common.{◌≡◌, ◌++◌, length, map, Some}
use Rattle.std.specs.Prelude.{filter_map}
use Rattle.link_rules.specs.Pins.{connected}
use Rattle.std.specs.List.{All}
use Rattle.link_pins.specs.Places.{IsPlaced}
use Rattle.link_pins.specs.Seen.{connected_at}
use Rattle.link_pins.proofs.pins.add_pins.Given as goal

abbrev pub invariant-pins : goal.invariant-pins
invariant-pins l = record {
  added : map (connected_at l.cells l.nets) l.pins.items ++ map Some (filter_map (connected l.cells l.nets l.number l.instance) l.rest)
      ≡ map (connected_at l.cells l.nets) l.initial.pins.items ++ map Some (filter_map (connected l.cells l.nets l.number l.instance) l.instance.pins);
  placed : All (IsPlaced l.cells l.nets) l.initial.pins.items → All (IsPlaced l.cells l.nets) l.pins.items;
}

abbrev pub decreases-pins : goal.decreases-pins
decreases-pins l = length l.rest
