use Rattle.std.proofs.Common.{◌∙◌, ap, map, arith}
use Rattle.std.proofs.lemmas.List.{take_all}
use Rattle.design_gen.specs.Generated.{sink_of}
use Rattle.design_gen.proofs.nets.sinks.Goals as goal

pub loop-pin-init : goal.loop-pin-init
loop-pin-init c = c.in_ok-sinks.ensures.items

pub pin_name-requires-clause-count : goal.pin_name-requires-clause-count
pin_name-requires-clause-count c = c.requires.count

pub pin_name-requires-clause-pin : goal.pin_name-requires-clause-pin
pin_name-requires-clause-pin c = c.requires.pins c.loop-pin.pin-index 0 c.loop-pin-test.true

pub returns : goal.returns
returns c =
    let whole = take_all c.loop-pin.pin-index c.args.numbers.now (omega (arith, c.loop-pin-test.false)) in
    c.from_vec.ensures ∙ (c.loop-pin.invariant ∙ ap (map (sink_of c.args.nets c.args.load c.args.couplings.now)) whole)
