use Rattle.std.proofs.Common.{rules, ◌≡◌, ◌+◌, ◌++◌, ◌∷◌, ◌∙◌, [], length, reverse, sym, ap, arith}
use Rattle.design_link.proofs.MadeLaws.{front, before_turn}
use Rattle.design_link.proofs.nets.nets_of.Goals as goal

pub net_of-requires : goal.net_of-requires
net_of-requires c =
    let x = front c.args.circuit.items (length c.nets.nets.items) c.in-Some.pins (reverse c.take_last.new.items.items) (sym c.in-Some.ensures ∙ c.nets.invariant.left_is) in
    let y = front c.args.wires.items (length c.nets.nets.items) c.in-Some-take_last.wire (reverse c.take_last-in-Some.new.items.items) (sym c.in-Some-take_last.ensures ∙ c.nets.invariant.rest_is) in
    c.requires.each (length c.nets.nets.items) c.in-Some.pins c.in-Some-take_last.wire x.at y.at

pub nets-preserved : goal.nets-preserved
nets-preserved c =
    let left = reverse c.nets.circuit.items in
    let more = reverse c.take_last.new.items.items in
    let rest = reverse c.nets.wires.items in
    let others = reverse c.take_last-in-Some.new.items.items in
    let first : reverse c.nets.circuit.items ≡ c.in-Some.pins ∷ reverse c.take_last.new.items.items = c.in-Some.ensures in
    let second : reverse c.nets.wires.items ≡ c.in-Some-take_last.wire ∷ reverse c.take_last-in-Some.new.items.items = c.in-Some-take_last.ensures in
    let size_left : length (reverse c.nets.circuit.items) ≡ length (c.in-Some.pins ∷ reverse c.take_last.new.items.items) = ap length first in
    let size_rest : length (reverse c.nets.wires.items) ≡ length (c.in-Some-take_last.wire ∷ reverse c.take_last-in-Some.new.items.items) = ap length second in
    let fewer : length (reverse c.take_last.new.items.items) + 1 ≡ length (reverse c.nets.circuit.items) = omega (arith, size_left) in
    let less : length (reverse c.take_last-in-Some.new.items.items) + 1 ≡ length (reverse c.nets.wires.items) = omega (arith, size_rest) in
    let e : c.push.new.self.items ≡ c.nets.nets.items ++ c.in_ok-net_of.field-0 ∷ [] = search rules in
    before_turn c.args.circuit.items c.args.wires.items c.nets.nets.items c.push.new.self.items left more rest others
    (length left) (length rest) (length more) (length others) c.in-Some.pins c.in-Some-take_last.wire c.in_ok-net_of.field-0 c.requires.count c.nets.invariant first second fewer less
    c.in_ok-net_of.ensures e
