use Rattle.std.proofs.Common.{◌≡◌, ◌++◌, map}
use Rattle.std.specs.Vec.Iter.{into_iter_items, into_iter_len}
use Rattle.liberty_cells.specs.Facts.{pin_of}
use Rattle.liberty_cells.proofs.pins.add_named.Given as goal

abbrev pub invariant-names : goal.invariant-names
invariant-names l =
    l.pins.items ++ map (pin_of l.facts.value) (into_iter_items l.rest)
    ≡ l.fn.pins.items ++ map (pin_of l.facts.value) l.fn.names.items

abbrev pub decreases-names : goal.decreases-names
decreases-names l = into_iter_len l.rest
