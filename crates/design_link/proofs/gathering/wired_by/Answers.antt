use Rattle.std.proofs.Common.{◌≡◌, subst, Err, None}
use Rattle.std.proofs.lemmas.Result.{err_from_is_err_and}
use Rattle.verilog_net.specs.declared.netlist.Netlist.{Netlist}
use Rattle.link_rules.specs.Bare.{Inputs}
use Rattle.link_rules.specs.Link.{Links}
use Rattle.link_rules.specs.Refusals.{instance_fault}
use Rattle.design_link.proofs.LinkLaws.{counts_kept}
use Rattle.design_link.proofs.GatherLaws.{pins_accepted, few_nets, sink_quantities, wires_stop, wired}
use Rattle.design_link.proofs.gathering.wired_by.Goals as goal

pub join-requires-clause-instances : goal.join-requires-clause-instances
join-requires-clause-instances c = (counts_kept c.args.index.now c.requires.counts).instances

pub wires-requires-clause-few : goal.wires-requires-clause-few
wires-requires-clause-few c =
    let x : Inputs = record { library = c.args.cells.now; netlist = c.args.index.now; parasitics = c.args.parasitics.now; constraints = c.args.constraints.now } in
    few_nets x c.in_ok-joined.joined c.nets.result.now c.nets.ensures c.in_ok-joined.ensures.1 c.requires.counts c.requires.library c.requires.netlist c.requires.constraints

pub wires-requires-clause-sinks : goal.wires-requires-clause-sinks
wires-requires-clause-sinks c =
    let x : Inputs = record { library = c.args.cells.now; netlist = c.args.index.now; parasitics = c.args.parasitics.now; constraints = c.args.constraints.now } in
    sink_quantities x c.in_ok-joined.joined c.nets.result.now c.nets.ensures c.in_ok-joined.ensures.1 c.requires.library c.requires.netlist c.requires.constraints

pub returns-in_err-wires-clause-fault : goal.returns-in_err-wires-clause-fault
returns-in_err-wires-clause-fault c =
    let x : Inputs = record { library = c.args.cells.now; netlist = c.args.index.now; parasitics = c.args.parasitics.now; constraints = c.args.constraints.now } in
    let instances = subst (λ (n : Netlist). instance_fault c.args.cells.now n ≡ None) c.netlist.ensures.value c.in_ok-check_instances.ensures in
    let pins = pins_accepted x c.requires.counts instances c.in_ok-joined.ensures.0 in
    let h : Links x (Err c.in_err-wires.field-0.0) = wires_stop x c.in_ok-joined.joined c.nets.result.now c.nets.ensures c.in_ok-joined.ensures.1 pins c.in_err-wires.field-0.0 c.in_err-wires.ensures.fault in
    let p = err_from_is_err_and c.from_residual-in_err-wires.result c.from_residual-in_err-wires.ensures.1 in
    rw (p.1, p.2) h

pub returns-clause-ok : goal.returns-clause-ok
returns-clause-ok c =
    let x : Inputs = record { library = c.args.cells.now; netlist = c.args.index.now; parasitics = c.args.parasitics.now; constraints = c.args.constraints.now } in
    let instances = subst (λ (n : Netlist). instance_fault c.args.cells.now n ≡ None) c.netlist.ensures.value c.in_ok-check_instances.ensures in
    let pins = pins_accepted x c.requires.counts instances c.in_ok-joined.ensures.0 in
    wired x c.in_ok-joined.joined c.nets.result.now c.nets.ensures c.in_ok-joined.ensures.1 pins c.in_ok-wires.wires.items c.in_ok-wires.ensures.ok
