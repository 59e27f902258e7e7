use Rattle.std.proofs.Common.{◌≡◌, ◌<◌, ◌∙◌, length, Some, refl, arith}
use Rattle.std.specs.List.{slice_get}
use Rattle.std.proofs.lemmas.List.{length-set}
use Rattle.std.proofs.lemmas.Option.{slice_get_read, slice_get_within}
use Rattle.verilog_net.specs.Bits.{bits}
use Rattle.link_pins.proofs.BitLaws.{bit_read}
use Rattle.link_pins.proofs.PinLaws.{element_at}
use Rattle.link_pins.proofs.SinkLaws.{ports_done, ports_left}
use Rattle.link_pins.proofs.sinks.sinks_of.Goals as goal

pub loop-net-preserved : goal.loop-net-preserved
loop-net-preserved c =
    let i = c.loop-net.invariant in
    let lt : c.loop-net.net < length (bits c.args.nets.now.nets) = omega (arith, c.loop-net-test.true, c.count-net-end.ensures.value) in
    let b = element_at (bits c.args.nets.now.nets) c.loop-net.net lt in
    let within : c.loop-net.net < length c.loop-net.sinks.nets.items = omega (arith, lt, i.count) in
    let there : slice_get c.loop-net.sinks.nets.items c.loop-net.net ≡ Some c.index_mut.result.now =
    slice_get_read c.loop-net.sinks.nets.items _ c.loop-net.net c.index_mut.result.now refl within c.index_mut.ensures.value in
    let before = i.left c.loop-net.net c.index_mut.result.now (omega arith) there in
    let adds = c.in_ok-add_port.ensures c.args.cells.now b.0 b.1 (bit_read (bits c.args.nets.now.nets) c.args.bits.now c.loop-net.net b.0 _ c.requires.bits b.1) in
    record {
      count = length-set c.loop-net.sinks.nets.items c.loop-net.net (record { sinks = c.add_port.new.row }) ∙ i.count;
      done =
          ports_done c.args.cells.now c.args.nets.now c.args.constraints.now c.loop-net.net b.0 b.1 c.loop-net.sinks.nets.items c.index_mut.result.now (record { sinks = c.add_port.new.row }) there
          before adds i.done;
      left = ports_left c.args.cells.now c.args.nets.now c.args.constraints.now c.loop-net.net b.0 b.1 c.loop-net.sinks.nets.items c.index_mut.result.now (record { sinks = c.add_port.new.row }) there i.left;
      places = i.places;
    }

pub returns-clause-sinks : goal.returns-clause-sinks
returns-clause-sinks c =
    let i = c.loop-net.invariant in
    record {
      count = i.count;
      each = λ net b row at h. i.done net b row (omega (arith, slice_get_within (bits c.args.nets.now.nets) net b at, c.loop-net-test.false, c.count-net-end.ensures.value)) at h;
    }
