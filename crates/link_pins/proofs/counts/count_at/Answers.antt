use Rattle.std.proofs.Common.{◌≡◌, ◌∙◌, Some, ap, sym}
use Rattle.link_pins.specs.Known.{known, IsCount}
use Rattle.link_pins.specs.Related.{group_numbered, group_at, IsIndexed}
use Rattle.link_pins.proofs.KeptLaws.{numbered_is, to_some_and}
use Rattle.link_pins.proofs.PinLaws.{some_and}
use Rattle.link_pins.proofs.counts.count_at.Goals as goal

pub returns-in-Some-clause-count : goal.returns-in-Some-clause-count
returns-in-Some-clause-count c =
    let cells = c.args.related.now.cells.items in
    let v = some_and (group_at cells c.args.pin) IsIndexed c.requires.there in
    let numbered : group_numbered cells c.args.pin.cell c.number-number.result ≡ Some v.0 = numbered_is cells c.args.pin v.0 c.number-number.result v.1 c.number-number.ensures in
    let held : known c.args.known.now.of.items c.number-number.result c.args.pin.cell c.args.places.now.from ≡ Some c.in-Some.count.now =
    sym (c.in-Some.ensures ∙ ap (known c.args.known.now.of.items c.number-number.result c.args.pin.cell) c.from-from.ensures) in
    to_some_and (group_at cells c.args.pin) (IsCount c.args.places.now.at.items c.in-Some.count.now) v.0 v.1
    (c.requires.known.right c.number-number.result c.args.pin.cell c.in-Some.count.now v.0 held numbered)
