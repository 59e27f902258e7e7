use Rattle.std.proofs.Common.{arith}
use Rattle.sdc_read.proofs.MentionLaws.{net_all, net_more}
use Rattle.sdc_read.proofs.port_table.copied_nets.Goals as goal

pub loop-number-preserved : goal.loop-number-preserved
loop-number-preserved c =
    net_more c.args.netlist.now.nets c.loop-number.number c.loop-number.nets.items c.push_net.new.nets.items c.loop-number.invariant
    c.in_ok-push_net.ensures

pub loop-number-init : goal.loop-number-init
loop-number-init c = c.new-nets.ensures.items

pub push_net-requires : goal.push_net-requires
push_net-requires c = let below = c.loop-number-test.true in let many = c.len-number-end.ensures in omega (arith, below, many)

pub returns : goal.returns
returns c =
    let past = c.loop-number-test.false in
    let many = c.len-number-end.ensures in
    net_all c.args.netlist.now.nets c.loop-number.number c.loop-number.nets.items c.loop-number.nets.items c.loop-number.invariant (omega (arith, past, many))
