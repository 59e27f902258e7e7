use Rattle.std.proofs.Common.{◌∙◌, length, sym, ap, subst, arith}
use Rattle.std.specs.List.{slice_get}
use Rattle.std.proofs.lemmas.List.{length-map, length_push}
use Rattle.std.proofs.lemmas.Option.{none-some}
use Rattle.verilog_net.specs.declared.netlist.PortRole.{PortRole}
use Rattle.verilog_net.specs.Bits.{bits}
use Rattle.link_rules.specs.Circuit.{port_drivers}
use Rattle.link_pins.specs.declared.bits.BitAt.{BitAt}
use Rattle.link_pins.specs.Rows.{IsDriver}
use Rattle.link_pins.specs.Seen.{bit_at}
use Rattle.link_pins.proofs.BitLaws.{bit_read}
use Rattle.link_pins.proofs.DriverLaws.{port_added}
use Rattle.link_pins.proofs.drivers.port_drivers.Goals as goal

pub loop-net-preserved : goal.loop-net-preserved
loop-net-preserved c = record {
  count = omega (arith, ap length c.in_ok-push.ensures.items, length_push c.loop-net.drivers.items c.in_ok-of_port.field-0, c.loop-net.invariant.count);
  each =
      port_added c.args.nets.now.nets c.loop-net.net c.loop-net.drivers.items c.push.new.self.items c.in_ok-of_port.field-0 c.loop-net.invariant.count c.in_ok-push.ensures.items
      c.loop-net.invariant.each
      (λ b at. subst (λ (r : PortRole). IsDriver c.in_ok-of_port.field-0 (port_drivers b r)) (ap (λ (x : BitAt). x.role) (bit_read (bits c.args.nets.now.nets) c.args.bits.now c.loop-net.net b _ c.requires.bits at))
      (c.in_ok-of_port.ensures b at));
}

pub loop-net-init : goal.loop-net-init
loop-net-init c = record {
  count = ap length c.in_ok-drivers.ensures.items;
  each = λ i b d at h. absurd (none-some d (sym (ap (λ l. slice_get l i) c.in_ok-drivers.ensures.items) ∙ h));
}

pub bounds-bits-net : goal.bounds-bits-net
bounds-bits-net c =
    omega (arith, c.loop-net-test.true, c.count-net-end.ensures.value, ap length c.requires.bits, length-map (bits c.args.nets.now.nets) bit_at)

pub of_port-requires-clause-there : goal.of_port-requires-clause-there
of_port-requires-clause-there c = omega (arith, c.loop-net-test.true, c.count-net-end.ensures.value)

pub of_port-requires-clause-sound : goal.of_port-requires-clause-sound
of_port-requires-clause-sound c = c.requires.sound

pub returns : goal.returns
returns c = record {
  count = omega (arith, c.loop-net.invariant.count, c.loop-net-test.false, c.loop-net.auto.net-end, c.count-net-end.ensures.value);
  each = c.loop-net.invariant.each;
}
