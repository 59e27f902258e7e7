use Rattle.std.proofs.Common.{◌≡◌, ◌<◌, length, get_or, Some, refl, sym, ap, arith}
use Rattle.std.specs.List.{slice_get}
use Rattle.std.proofs.lemmas.List.{append-nil}
use Rattle.std.proofs.lemmas.Option.{slice_get_read}
use Rattle.verilog_net.specs.Bits.{bits}
use Rattle.link_pins.specs.declared.sinks.NetSinks.{NetSinks}
use Rattle.link_pins.proofs.BitLaws.{bit_read}
use Rattle.link_pins.proofs.NetLaws.{ports_more, ports_all}
use Rattle.link_pins.proofs.PinLaws.{element_at}
use Rattle.link_pins.proofs.nets.add_all_ports.Goals as goal

pub loop-net-init : goal.loop-net-init
loop-net-init c = sym (append-nil c.args.checks.now.items)

pub loop-net-preserved : goal.loop-net-preserved
loop-net-preserved c =
    let lt : c.loop-net.net < length (bits c.args.nets.now.nets) = omega (arith, c.loop-net-test.true, c.count-net-end.ensures.value) in
    let b = element_at (bits c.args.nets.now.nets) c.loop-net.net lt in
    let r = c.index-sinks-place.result in
    let there : slice_get c.args.sinks.now c.loop-net.net ≡ Some r =
    slice_get_read c.args.sinks.now _ c.loop-net.net r refl (omega (arith, lt, c.requires.sinks.count)) c.index-sinks-place.is in
    ports_more c.args.cells.now c.args.nets.now c.args.constraints.now (bits c.args.nets.now.nets) c.loop-net.net b.0 c.args.checks.now.items c.loop-net.checks.items c.add_port.new.checks.items b.1
    c.loop-net.invariant
    (c.in_ok-add_port.ensures c.args.cells.now b.0 b.1 (bit_read (bits c.args.nets.now.nets) c.args.bits.now c.loop-net.net b.0 _ c.requires.bits b.1)
    (omega (arith, c.len.ensures, (get_or c.args.sinks.now c.loop-net.net r).sinks.ok.0, ap (λ (x : NetSinks). length x.sinks.items) c.index-sinks-place.is, ap length (c.requires.sinks.each c.loop-net.net b.0 r b.1 there))))

pub returns : goal.returns
returns c =
    ports_all c.args.cells.now c.args.nets.now c.args.constraints.now (bits c.args.nets.now.nets) c.loop-net.net c.args.checks.now.items c.loop-net.checks.items
    (omega (arith, c.loop-net-test.false, c.count-net-end.ensures.value)) c.loop-net.invariant
