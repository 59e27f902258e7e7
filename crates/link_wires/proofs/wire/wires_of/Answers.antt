use Rattle.std.proofs.Common.{sym, subst, arith}
use Rattle.std.proofs.lemmas.Result.{err_from_is_err_and}
use Rattle.link_wires.specs.Wires.{HasSinkQuantities}
use Rattle.link_wires.proofs.WireLaws.{wires_push, first_fault, wires_whole}
use Rattle.link_wires.proofs.wire.wires_of.Goals as goal

pub returns-in_err-wire_of-clause-fault : goal.returns-in_err-wire_of-clause-fault
returns-in_err-wire_of-clause-fault c =
    let failed = err_from_is_err_and c.from_residual-in_err-wire_of.result c.from_residual-in_err-wire_of.ensures.1 in
    rw (failed.1, failed.2)
    (first_fault c.args.index.now.netlist c.args.index.now.parasitics c.args.nets.now c.loop-net.net c.index-nets-net.result c.loop-net.wires.items c.loop-net-test.true c.index-nets-net.is c.loop-net.invariant.wires _ c.in_err-wire_of.ensures.fault)

pub loop-net-preserved : goal.loop-net-preserved
loop-net-preserved c = record {
  wires = rw c.in_ok-push.ensures.items
      (wires_push c.args.index.now.netlist c.args.index.now.parasitics c.args.nets.now c.loop-net.net c.index-nets-net.result c.loop-net.wires.items c.loop-net-test.true c.index-nets-net.is c.loop-net.invariant.wires _ c.in_ok-wire_of.ensures.ok);
  nets = c.in_ok-wire_of.ensures.nets;
  nodes = c.in_ok-wire_of.ensures.nodes;
}

pub returns-clause-ok : goal.returns-clause-ok
returns-clause-ok c = wires_whole c.args.index.now.netlist c.args.index.now.parasitics c.args.nets.now c.loop-net.net c.loop-net.wires.items (omega (arith, c.loop-net-test.false)) c.loop-net.invariant.wires

pub bounds-nets-net : goal.bounds-nets-net
bounds-nets-net c = c.loop-net-test.true

pub wire_of-requires-clause-parasitics : goal.wire_of-requires-clause-parasitics
wire_of-requires-clause-parasitics c = c.requires.parasitics

pub wire_of-requires-clause-nets : goal.wire_of-requires-clause-nets
wire_of-requires-clause-nets c = c.loop-net.invariant.nets

pub wire_of-requires-clause-nodes : goal.wire_of-requires-clause-nodes
wire_of-requires-clause-nodes c = c.loop-net.invariant.nodes

pub wire_of-requires-clause-sinks : goal.wire_of-requires-clause-sinks
wire_of-requires-clause-sinks c =
    let x = c.index-nets-net.result in
    subst HasSinkQuantities (sym c.index-nets-net.is) (c.requires.sinks c.loop-net.net x c.loop-net-test.true)
