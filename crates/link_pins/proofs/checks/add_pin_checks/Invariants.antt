use Rattle.std.proofs.Common.{◌≡◌, ◌++◌, take, Some}
use Rattle.std.specs.Prelude.{filter_map}
use Rattle.link_rules.specs.Pins.{Connected}
use Rattle.link_pins.specs.Seen.{connected_at}
use Rattle.link_pins.proofs.CheckLaws.{check_of}
use Rattle.link_pins.proofs.checks.add_pin_checks.Given as goal

abbrev pub invariant-loop-one : goal.invariant-loop-one
invariant-loop-one l = (d : Connected) → connected_at l.cells l.nets l.pin ≡ Some d
    → l.checks.items ≡ l.initial.checks.items ++ filter_map (check_of l.cells l.nets d l.datum l.places.at.items) (take l.one-index l.related)
