use Rattle.std.proofs.Common.{◌≡◌, ◌∙◌, Some, refl, ap}
use Rattle.std.specs.List.{slice_get}
use Rattle.std.proofs.lemmas.Option.{slice_get_read}
use Rattle.verilog_net.specs.declared.netlist.Netlist.{Netlist}
use Rattle.link_pins.proofs.PinLaws.{instances_more, instances_all}
use Rattle.link_pins.proofs.pins.pins_on.Goals as goal

pub add_pins-requires : goal.add_pins-requires
add_pins-requires c =
    let same : c.as_slice-instances.result.now ≡ c.args.nets.now.instances = c.as_slice-instances.ensures ∙ ap (λ (n : Netlist). n.instances) c.netlist.ensures.value in
    let at : slice_get c.as_slice-instances.result.now c.loop-number.number ≡ Some c.index-instances-number.result =
    slice_get_read c.as_slice-instances.result.now _ c.loop-number.number c.index-instances-number.result refl c.loop-number-test.true c.index-instances-number.is in
    rw same at at

pub loop-number-preserved : goal.loop-number-preserved
loop-number-preserved c =
    let same : c.as_slice-instances.result.now ≡ c.args.nets.now.instances = c.as_slice-instances.ensures ∙ ap (λ (n : Netlist). n.instances) c.netlist.ensures.value in
    let at : slice_get c.as_slice-instances.result.now c.loop-number.number ≡ Some c.index-instances-number.result =
    slice_get_read c.as_slice-instances.result.now _ c.loop-number.number c.index-instances-number.result refl c.loop-number-test.true c.index-instances-number.is in
    record {
      all = instances_more c.args.cells.now c.args.nets.now c.args.nets.now.instances c.loop-number.number c.index-instances-number.result _ _ (rw same at at)
          c.loop-number.invariant.all c.in_ok-add_pins.ensures.added;
      placed = c.in_ok-add_pins.ensures.placed c.loop-number.invariant.placed;
    }

pub returns-clause-all : goal.returns-clause-all
returns-clause-all c =
    let same : c.as_slice-instances.result.now ≡ c.args.nets.now.instances = c.as_slice-instances.ensures ∙ ap (λ (n : Netlist). n.instances) c.netlist.ensures.value in
    instances_all c.args.cells.now c.args.nets.now c.loop-number.number _ (rw same at c.loop-number-test.false) c.loop-number.invariant.all

pub returns-clause-placed : goal.returns-clause-placed
returns-clause-placed c = c.loop-number.invariant.placed
