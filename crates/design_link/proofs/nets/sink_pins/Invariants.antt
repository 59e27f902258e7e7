use Rattle.std.specs.Vec.Iter.{into_iter_items, into_iter_len}
use Rattle.design_link.proofs.MadeLaws.{AreFilledBefore}
use Rattle.design_link.proofs.nets.sink_pins.Given as goal

abbrev pub invariant-filled : goal.invariant-filled
invariant-filled l =
    AreFilledBefore l.fn.sinks.items l.fn.forms.items l.made.items (into_iter_items l.left) (into_iter_items l.rest) (into_iter_len l.left) (into_iter_len l.rest)

abbrev pub decreases-filled : goal.decreases-filled
decreases-filled l = into_iter_len l.left
