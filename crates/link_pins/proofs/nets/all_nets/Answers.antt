use Rattle.std.proofs.Common.{◌≡◌, ◌<◌, [], length, drop, sym, ap, ◌∙◌, arith, length-drop}
use Rattle.verilog_net.specs.Bits.{bits}
use Rattle.link_rules.specs.Given.{is_input_port}
use Rattle.link_pins.specs.declared.bits.BitAt.{BitAt}
use Rattle.link_pins.proofs.BitLaws.{bit_read}
use Rattle.link_pins.proofs.MadeLaws.{bare_pins, made_so, made_more, made_all, taken}
use Rattle.link_pins.proofs.PinLaws.{element_at, some_at}
use Rattle.link_pins.proofs.nets.all_nets.Goals as goal

pub loop-net-preserved : goal.loop-net-preserved
loop-net-preserved c =
    let i = c.loop-net.invariant in
    let net = c.loop-net.net in
    let lt : net < length (bits c.args.nets.now.nets) = omega (arith, c.loop-net-test.true, c.count-net-end.ensures.value) in
    let b = element_at (bits c.args.nets.now.nets) net lt in
    let driver = taken c.args.gathered.drivers.items net c.in-Some.driver _ (omega (arith, lt, c.requires.drivers.count)) (sym c.in-Some.ensures ∙ i.drivers) in
    let row = taken c.args.gathered.sinks.items net c.in-Some-take_last.row _ (omega (arith, lt, c.requires.sinks.count)) (sym c.in-Some-take_last.ensures ∙ i.sinks) in
    let bit = bit_read (bits c.args.nets.now.nets) c.args.bits.now net b.0 _ c.requires.bits b.1 in
    let net_made = c.net_pins.ensures in
    let is : c.net_pins.result ≡ bare_pins c.args.cells.now c.args.nets.now c.args.constraints.now (net, b.0) =
    made_so c.args.cells.now c.args.nets.now c.args.constraints.now net b.0 c.net_pins.result
    (net_made.name ∙ some_at _ _ b.0 b.1 c.in_ok-name.ensures)
    (net_made.input ∙ ap (λ (x : BitAt). is_input_port x.role) bit)
    (net_made.given ∙ (c.in_ok-windows.ensures ∙ c.given.ensures b.0 bit))
    (net_made.driver ∙ (c.requires.drivers.each net b.0 c.in-Some.driver b.1 driver.0).first)
    (net_made.sinks ∙ c.requires.sinks.each net b.0 c.in-Some-take_last.row b.1 row.0)
    net_made.arcs in
    record {
      made = made_more c.args.cells.now c.args.nets.now c.args.constraints.now net b.0 c.net_pins.result c.loop-net.made.items c.push.new.self.items b.1 is c.in_ok-push.ensures.items i.made;
      drivers = driver.1;
      sinks = row.1;
    }

pub returns : goal.returns
returns c =
    made_all c.args.cells.now c.args.nets.now c.args.constraints.now c.loop-net.net c.loop-net.made.items
    (omega (arith, c.loop-net-test.false, c.count-net-end.ensures.value)) c.loop-net.invariant.made

pub unreachable-requires : goal.unreachable-requires
unreachable-requires c =
    let net = c.loop-net.net in
    let none : drop net c.args.gathered.drivers.items ≡ [] = sym c.loop-net.invariant.drivers ∙ c.in_default.ensures in
    absurd (omega (arith, c.loop-net-test.true, c.count-net-end.ensures.value, c.requires.drivers.count, ap length none, length-drop net c.args.gathered.drivers.items))

pub unreachable-requires-in_default-take_last : goal.unreachable-requires-in_default-take_last
unreachable-requires-in_default-take_last c =
    let net = c.loop-net.net in
    let none : drop net c.args.gathered.sinks.items ≡ [] = sym c.loop-net.invariant.sinks ∙ c.in_default-take_last.ensures in
    absurd (omega (arith, c.loop-net-test.true, c.count-net-end.ensures.value, c.requires.sinks.count, ap length none, length-drop net c.args.gathered.sinks.items))
