use Rattle.std.proofs.Common.{◌≡◌, ◌<◌, ◌∙◌, length, Some, sym, ap, arith}
use Rattle.std.specs.List.{slice_get}
use Rattle.std.proofs.lemmas.Option.{slice_get_read}
use Rattle.verilog_net.specs.Bits.{bits}
use Rattle.link_rules.specs.declared.fault.LinkFault.TheVariants as faults
use Rattle.link_rules.specs.declared.fault.LinkRefusal.TheVariants as refusals
use Rattle.link_pins.specs.declared.drivers.Driver.{Driver}
use Rattle.link_pins.proofs.PinLaws.{element_at, some_at}
use Rattle.link_pins.proofs.DriverFaults.{faults_begin, one_driver, two_drivers, faults_end}
use Rattle.link_pins.proofs.drivers.check_drivers.Goals as goal

pub loop-net-init : goal.loop-net-init
loop-net-init c = λ library are. faults_begin library c.args.nets.now

pub returns-then-drivers-net : goal.returns-then-drivers-net
returns-then-drivers-net c = λ library are.
    let lt : c.loop-net.net < length (bits c.args.nets.now.nets) = omega (arith, c.loop-net-test.true, c.count-net-end.ensures.value) in
    let b = element_at (bits c.args.nets.now.nets) c.loop-net.net lt in
    let d = c.index-drivers-net.result in
    let there : slice_get c.args.drivers.now c.loop-net.net ≡ Some d = slice_get_read c.args.drivers.now _ c.loop-net.net d (sym c.requires.count) lt c.index-drivers-net.is in
    let twice = sym c.if-drivers-net.true ∙ ap (λ (x : Driver). x.twice) (sym c.index-drivers-net.is) ∙ (are.each c.loop-net.net b.0 d b.1 there).twice in
    let name = some_at _ _ b.0 b.1 c.in_ok-net_name.ensures in
    sym (c.loop-net.invariant library are) ∙ two_drivers library c.args.nets.now c.loop-net.net b.0 b.1 twice
    ∙ ap (λ n. Some (faults.Refused (refusals.K3 n))) (sym name)

pub loop-net-preserved : goal.loop-net-preserved
loop-net-preserved c = λ library are.
    let lt : c.loop-net.net < length (bits c.args.nets.now.nets) = omega (arith, c.loop-net-test.true, c.count-net-end.ensures.value) in
    let b = element_at (bits c.args.nets.now.nets) c.loop-net.net lt in
    let d = c.index-drivers-net.result in
    let there : slice_get c.args.drivers.now c.loop-net.net ≡ Some d = slice_get_read c.args.drivers.now _ c.loop-net.net d (sym c.requires.count) lt c.index-drivers-net.is in
    let single = sym c.if-drivers-net.false ∙ ap (λ (x : Driver). x.twice) (sym c.index-drivers-net.is) ∙ (are.each c.loop-net.net b.0 d b.1 there).twice in
    one_driver library c.args.nets.now c.loop-net.net b.0 b.1 single ∙ c.loop-net.invariant library are

pub returns : goal.returns
returns c = λ library are.
    sym (c.loop-net.invariant library are) ∙ faults_end library c.args.nets.now c.loop-net.net (omega (arith, c.loop-net-test.false, c.count-net-end.ensures.value))
