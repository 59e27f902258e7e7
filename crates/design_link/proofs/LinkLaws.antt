-- The stages of linking: what each refuses is what is refused, and what the next one asks.
use Rattle.std.specs.Prelude.{◌≡◌, ◌≤◌, List, [], ◌∷◌, length, map, Option, Some, None, Err, IfSome}
use Rattle.std.specs.List.{All, AllByRecursion}
use Rattle.std.proofs.Common.{arith, ◌∙◌, inl, inr}
use Rattle.std.proofs.lemmas.List.Elements.{recursion_from_All, All-from_recursion}
use Rattle.xt_model.specs.declared.fault.LimitKind.TheVariants as limits
use Rattle.verilog_net.specs.declared.netlist.Netlist.{Netlist}
use Rattle.verilog_net.specs.declared.netlist.PortRole.{PortRole}
use Rattle.verilog_net.specs.declared.netlist.PortRole.TheVariants as roles
use Rattle.liberty_cells.specs.declared.library.Library.{Library}
use Rattle.sdc_read.specs.declared.constraints.Constraints.{Constraints}
use Rattle.sdc_read.specs.declared.ports.PortSet.{PortSet}
use Rattle.sdc_read.specs.Ports.{port_at, IsInRange}
use Rattle.link_rules.specs.declared.fault.LinkFault.{LinkFault}
use Rattle.link_rules.specs.declared.fault.LinkFault.TheVariants as faults
use Rattle.link_rules.specs.Bare.{Inputs, bare_parts}
use Rattle.link_rules.specs.Bare as bare
use Rattle.verilog_net.specs.Bits.{Bit, bits}
use Rattle.link_rules.specs.Circuit.{Numbered, numbered, load_in, pin_sink, port_sinks, sinks_of, net_pins, circuit_of}
use Rattle.xt_model.specs.Limits.{most_nets, most_instances}
use Rattle.link_rules.specs.Limits.{passed, count_fault, size_fault}
use Rattle.link_rules.specs.Link.{Links, HasAcceptedPins, HasAcceptedWires}
use Rattle.link_rules.specs.Pins.{Connected, inputs_on}
use Rattle.link_rules.specs.Refusals.{instance_fault, driver_fault}
use Rattle.xt_number.specs.Quantities.{IsQuantity}
use Rattle.liberty_cells.specs.Sound.{IsSoundLibrary}
use Rattle.sdc_read.specs.Sound.{AreSoundConstraints}
use Rattle.verilog_net.specs.Sound.{IsSoundNetlist}
use Rattle.link_pins.specs.Answers.{IsFound}
use Rattle.link_wires.specs.Wires.{HasSinkQuantities, IsFirstFault}
use Rattle.design_link.proofs.Lists.{each-append, length-mapped, length-numbered}
use Rattle.design_link.proofs.GivenLaws.{port_in_range}
use Rattle.design_link.proofs.PinLaws.{IsOn, inputs_are}
use Rattle.design_link.proofs.CoupleLaws.{both_kept, kept}

-- ---- what a stage refuses
module _ (x : Inputs) where
  pub counts_refused : (fault : LinkFault) → IsFound (count_fault x.netlist) fault → Links x (Err fault)
  counts_refused faults.NoMemory h = tt
  counts_refused (faults.Refused r) h = inl h
  counts_refused (faults.Limit what name value) h = inl h

  module _ (counts : count_fault x.netlist ≡ None) where
    pub instances_refused : (fault : LinkFault) → IsFound (instance_fault x.library x.netlist) fault → Links x (Err fault)
    instances_refused faults.NoMemory h = tt
    instances_refused (faults.Refused r) h = inr (inl (record { counts = counts; here = h }))
    instances_refused (faults.Limit what name value) h = inr (inl (record { counts = counts; here = h }))

    module _ (instances : instance_fault x.library x.netlist ≡ None) where
      pub drivers_refused : (fault : LinkFault) → IsFound (driver_fault x.library x.netlist) fault → Links x (Err fault)
      drivers_refused faults.NoMemory h = tt
      drivers_refused (faults.Refused r) h = inr (inr (inl (record { counts = counts; instances = instances; here = h })))
      drivers_refused (faults.Limit what name value) h = inr (inr (inl (record { counts = counts; instances = instances; here = h })))

  pub wires_refused : HasAcceptedPins x → (fault : LinkFault) → IsFirstFault x.netlist x.parasitics (bare.numbered x) fault → Links x (Err fault)
  wires_refused pins faults.NoMemory h = tt
  wires_refused pins (faults.Refused r) h = inr (inr (inr (inl (record { pins = pins; here = h }))))
  wires_refused pins (faults.Limit what name value) h = inr (inr (inr (inl (record { pins = pins; here = h }))))

  pub sizes_refused : HasAcceptedWires x → (fault : LinkFault) → IsFound (size_fault (bare_parts x)) fault → Links x (Err fault)
  sizes_refused wires faults.NoMemory h = tt
  sizes_refused wires (faults.Refused r) h = inr (inr (inr (inr (inl (record { wires = wires; here = h })))))
  sizes_refused wires (faults.Limit what name value) h = inr (inr (inr (inr (inl (record { wires = wires; here = h })))))

-- ---- what the counts leave
pub record AreFew (netlist : Netlist) : Type 0 where
  pub nets : length (bits netlist.nets) ≤ most_nets
  pub instances : length netlist.instances ≤ most_instances

pub counts_kept : (netlist : Netlist) → count_fault netlist ≡ None → AreFew netlist
unfolding count_fault
counts_kept netlist e =
    let h = both_kept (passed limits.Nets None (length (bits netlist.nets)) most_nets) (passed limits.Instances None (length netlist.instances) most_instances) e in
    record {
      nets = kept limits.Nets None (length (bits netlist.nets)) most_nets h.0;
      instances = kept limits.Instances None (length netlist.instances) most_instances h.1;
    }

-- ---- the capacitances of sinks
module _ (library : Library) (netlist : Netlist) (constraints : Constraints) (lib : IsSoundLibrary library) (net : IsSoundNetlist netlist)
    (set : AreSoundConstraints constraints) where
  pins_quantities : (cs : List Connected) → AllByRecursion (IsOn library netlist) cs → AllByRecursion (λ s. IsQuantity s.cap) (map pin_sink cs)
  pins_quantities [] h = tt
  pins_quantities (c ∷ cs) h = (h.0.pin.cap, pins_quantities cs h.1)

  load_quantity : (o : Option PortSet) → IfSome o IsInRange → IsQuantity (load_in o)
  load_quantity None h = record { least = omega arith; most = omega arith }
  load_quantity (Some s) h = record { least = h.load.0; most = h.load.1 }

  port_quantities : (b : Bit) (role : PortRole) → AllByRecursion (λ s. IsQuantity s.cap) (port_sinks library netlist constraints b role)
  port_quantities b roles.Output =
      (load_quantity (port_at b.decl b.bit constraints.ports) (port_in_range b.decl b.bit constraints.ports (recursion_from_All IsInRange constraints.ports set.ports)), tt)
  port_quantities b roles.Input = tt
  port_quantities b roles.Inner = tt

  net_quantities : (ns : List Numbered) → AllByRecursion HasSinkQuantities (map (net_pins library netlist constraints) ns)
  unfolding net_pins
  net_quantities [] = tt
  net_quantities (n ∷ ns) = (
    All-from_recursion (λ s. IsQuantity s.cap) (sinks_of library netlist constraints n)
        (each-append (λ s. IsQuantity s.cap) (map pin_sink (inputs_on library netlist n.0)) (port_sinks library netlist constraints n.1 n.1.role)
        (pins_quantities (inputs_on library netlist n.0) (inputs_are library netlist lib net n.0)) (port_quantities n.1 n.1.role)),
    net_quantities ns,
  )

  pub sinks_are_quantities : All HasSinkQuantities (circuit_of library netlist constraints).nets
  unfolding circuit_of
  sinks_are_quantities = All-from_recursion HasSinkQuantities (map (net_pins library netlist constraints) (numbered netlist)) (net_quantities (numbered netlist))

  pub nets_count : length (circuit_of library netlist constraints).nets ≡ length (bits netlist.nets)
  unfolding circuit_of
  nets_count = length-mapped (net_pins library netlist constraints) (numbered netlist) ∙ length-numbered 0 (bits netlist.nets)
