use Rattle.std.proofs.Common.{rules, ◌≡◌, ◌+◌, ◌++◌, ◌∷◌, []}
use Rattle.std.specs.Vec.Iter.{into_iter_items, into_iter_len}
use Rattle.design_link.proofs.MadeLaws.{filled_turn}
use Rattle.design_link.proofs.nets.sink_pins.Goals as goal

pub filled-preserved : goal.filled-preserved
filled-preserved c =
    let first : into_iter_items c.filled.left ≡ c.in-Some.form ∷ into_iter_items c.next.new.self = c.in-Some.ensures.items in
    let second : into_iter_items c.filled.rest ≡ c.in-Some-next.sink ∷ into_iter_items c.next-in-Some.new.self = c.in-Some-next.ensures.items in
    let fewer : into_iter_len c.next.new.self + 1 ≡ into_iter_len c.filled.left = c.in-Some.ensures.len in
    let less : into_iter_len c.next-in-Some.new.self + 1 ≡ into_iter_len c.filled.rest = c.in-Some-next.ensures.len in
    let e : c.push.new.self.items ≡ c.filled.made.items ++ c.sink_pin.result ∷ [] = search rules in
    filled_turn c.args.sinks.items c.args.forms.items c.filled.made.items c.push.new.self.items (into_iter_items c.filled.left) (into_iter_items c.next.new.self)
    (into_iter_items c.filled.rest) (into_iter_items c.next-in-Some.new.self) (into_iter_len c.filled.left) (into_iter_len c.filled.rest) (into_iter_len c.next.new.self)
    (into_iter_len c.next-in-Some.new.self) c.in-Some-next.sink c.in-Some.form c.sink_pin.result c.requires c.filled.invariant first second fewer less
    c.sink_pin.ensures.value c.sink_pin.ensures.sums e
