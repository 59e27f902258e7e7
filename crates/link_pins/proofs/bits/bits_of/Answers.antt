use Rattle.std.proofs.Common.{arith, ◌∙◌}
use Rattle.link_pins.proofs.BitLaws.{no_nets, nets_more, nets_all}
use Rattle.link_pins.proofs.bits.bits_of.Goals as goal

pub loop-number-init : goal.loop-number-init
loop-number-init c = c.new-bits.ensures.items ∙ no_nets c.args.netlist.now.nets

pub loop-number-preserved : goal.loop-number-preserved
loop-number-preserved c =
    nets_more c.args.netlist.now.nets c.loop-number.number c.loop-number.bits.items c.add_net.new.bits.items c.loop-number.invariant
    c.in_ok-add_net.ensures

pub returns : goal.returns
returns c =
    nets_all c.args.netlist.now.nets c.loop-number.number c.loop-number.bits.items
    (omega (arith, c.len-number-end.ensures, c.loop-number-test.false)) c.loop-number.invariant
