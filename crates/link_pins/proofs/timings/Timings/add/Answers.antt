use Rattle.std.proofs.Common.{◌≡◌, ◌∙◌, map, Some, is_some, ap, sym}
use Rattle.std.specs.Prelude.{filter}
use Rattle.link_pins.specs.Known.{known}
use Rattle.link_pins.specs.Related.{related_of, is_sink_at, group_numbered, group_at, IsIndexed}
use Rattle.link_pins.specs.Seen.{connected_at}
use Rattle.link_pins.proofs.KeptLaws.{index_for, numbered_is, to_some_and}
use Rattle.link_pins.proofs.PinLaws.{parts_of, some_is}
use Rattle.link_pins.proofs.timings.Timings.add.Goals as goal

pub find_sinks-requires-clause-there : goal.find_sinks-requires-clause-there
find_sinks-requires-clause-there c =
    let cells = c.args.related.now.cells.items in
    let d = some_is (connected_at c.args.cells.now c.args.nets.now c.args.pin) c.requires.there in
    let there = ap is_some (parts_of c.args.cells.now c.args.nets.now c.args.pin d.0 d.1).pin in
    let v = some_is (group_at cells c.args.pin) (c.requires.related.there c.args.pin there) in
    to_some_and (group_at cells c.args.pin) IsIndexed v.0 v.1 (index_for c.args.cells.now cells c.requires.related c.args.pin there v.0 v.1)

pub number-requires : goal.number-requires
number-requires c =
    let d = some_is (connected_at c.args.cells.now c.args.nets.now c.args.pin) c.requires.there in
    c.requires.related.there c.args.pin (ap is_some (parts_of c.args.cells.now c.args.nets.now c.args.pin d.0 d.1).pin)

pub add_found-requires-clause-found : goal.add_found-requires-clause-found
add_found-requires-clause-found c = λ x q there pin.
    let cells = c.args.related.now.cells.items in
    let v = some_is (group_at cells c.args.pin) (c.requires.related.there c.args.pin (ap is_some pin)) in
    let numbered : group_numbered cells c.args.pin.cell c.number.result ≡ Some v.0 = numbered_is cells c.args.pin v.0 c.number.result v.1 c.number.ensures in
    let held : known c.find_sinks.new.known.of.items c.number.result c.args.pin.cell c.args.places.now.from ≡ Some c.in-Some.sinks.now =
    sym (c.in-Some.ensures ∙ ap (known c.find_sinks.new.known.of.items c.number.result c.args.pin.cell) c.from.ensures) in
    ap (map related_of) c.deref.ensures.value
    ∙ (c.in_ok-find_sinks.ensures.known.right c.number.result c.args.pin.cell c.in-Some.sinks.now v.0 held numbered
    ∙ ap (filter (is_sink_at c.args.places.now.at.items)) (c.requires.related.each c.args.pin x q v.0 there pin v.1).related)
