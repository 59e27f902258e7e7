-- What is gathered, stage by stage.
use Rattle.std.specs.Prelude.{◌≡◌, refl, ℕ, suc, ◌<◌, ◌≤◌, ◌^◌, List, [], ◌∷◌, length, map, Option, Some, None, Err}
use Rattle.std.specs.List.{All, AllByRecursion, enumerate_from, slice_get, sum_by}
use Rattle.std.proofs.Common.{arith, sym, ap, ◌∙◌, subst}
use Rattle.std.proofs.lemmas.List.Elements.{recursion_from_All, All-from_recursion}
use Rattle.xt_model.specs.declared.net.Net.{Net}
use Rattle.xt_model.specs.declared.fault.LimitKind.TheVariants as limits
use Rattle.xt_model.specs.Limits.{most_tables, most_checks, most_couplings, most_coefficients, most_arcs}
use Rattle.xt_model.specs.Parts.{Parts}
use Rattle.xt_model.specs.Sound.{coefficients_of}
use Rattle.liberty_cells.specs.declared.library.Library.{Library}
use Rattle.verilog_net.specs.declared.netlist.Netlist.{Netlist}
use Rattle.spef_read.specs.declared.parasitics.Parasitics.{Parasitics}
use Rattle.sdc_read.specs.declared.constraints.Constraints.{Constraints}
use Rattle.link_rules.specs.declared.circuit.NetPins.{NetPins}
use Rattle.link_rules.specs.declared.circuit.Circuit.{Circuit}
use Rattle.link_rules.specs.declared.fault.LinkFault.{LinkFault}
use Rattle.link_rules.specs.Bare.{Inputs, bare_parts}
use Rattle.link_rules.specs.Bare as bare
use Rattle.link_rules.specs.Circuit.{circuit_of}
use Rattle.link_rules.specs.Limits.{or_fault, passed, count_fault, size_fault}
use Rattle.link_rules.specs.Link.{Links, HasAcceptedPins, HasAcceptedWires}
use Rattle.link_rules.specs.Refusals.{instance_fault, driver_fault, IsAcceptedWire}
use Rattle.liberty_cells.specs.Sound.{IsSoundLibrary}
use Rattle.sdc_read.specs.Sound.{AreSoundConstraints}
use Rattle.verilog_net.specs.Sound.{IsSoundNetlist}
use Rattle.link_pins.specs.declared.counts.Counts.{Counts}
use Rattle.link_pins.specs.declared.joined.Joined.{Joined}
use Rattle.link_pins.specs.Answers.{IsFound}
use Rattle.link_pins.specs.Joined.{without_arcs, IsJoined, AreCounts}
use Rattle.link_wires.specs.declared.wire.NetWire.{NetWire}
use Rattle.link_wires.specs.Wires.{HasSinkQuantities, IsWireOf, AreWires, IsFirstFault}
use Rattle.design_link.specs.declared.gathering.Gathered.{Gathered}
use Rattle.design_link.specs.Gathered.{IsGathered, IsWired}
use Rattle.design_link.specs.Sizes.{plain_nets, plain_parts, couplings_sum, arcs_sum, sizes_fault, reads_fault}
use Rattle.design_link.proofs.BareLaws.{bare_number, numbered_bare, wires_same, first_same, coefficients_same}
use Rattle.design_link.proofs.CoupleLaws.{both_kept, kept}
use Rattle.design_link.proofs.Lists.{length-mapped, length-numbered}
use Rattle.design_link.proofs.LinkLaws.{wires_refused, sizes_refused, counts_kept, nets_count, sinks_are_quantities}
use Rattle.design_link.proofs.ReadLaws.{couplings_same, arcs_same}
use Rattle.design_link.proofs.SizeLaws.{sizes_are}
use Rattle.design_link.proofs.StageLaws.{found_first, found_behind, reads_last, sizes_same}

module _ (netlist : Netlist) (parasitics : Parasitics) where
  accepted_by : (ns : List bare.Numbered) (ws : List NetWire) → length ws ≡ length ns
      → ((i : ℕ) (n : bare.Numbered) (w : NetWire) → slice_get ns i ≡ Some n → slice_get ws i ≡ Some w → IsWireOf netlist parasitics n w)
      → AllByRecursion (IsAcceptedWire netlist parasitics) ns
  accepted_by [] ws a all = tt
  accepted_by (n ∷ ns) [] a all = absurd (omega (arith, a))
  accepted_by (n ∷ ns) (w ∷ ws) a all = ((all 0 n w refl refl).accepted, accepted_by ns ws (omega (arith, a)) (λ i. all (suc i)))

-- nothing is refused up to the pins of nets
pub pins_accepted : (x : Inputs) → count_fault x.netlist ≡ None → instance_fault x.library x.netlist ≡ None → driver_fault x.library x.netlist ≡ None → HasAcceptedPins x
pins_accepted x counts instances drivers = record { counts = counts; instances = instances; drivers = drivers }

-- what is told of the circuit by bits of a netlist is told by the netlist
pub told_at : (library : Library) (n m : Netlist) (given : Constraints) (j : Joined) (P : Circuit → Type 0) → n ≡ m
    → ((s : Constraints) → IsJoined library n s j → P (circuit_of library n s)) → IsJoined library m given j → P (circuit_of library m given)
told_at library n m given j P e told joined = subst (λ k. IsJoined library k given j → P (circuit_of library k given)) e (told given) joined

bare_quantities : (ps : List NetPins) → AllByRecursion HasSinkQuantities ps → AllByRecursion HasSinkQuantities (map without_arcs ps)
bare_quantities [] all = tt
bare_quantities (p ∷ ps) all = (all.0, bare_quantities ps all.1)

module _ (x : Inputs) (j : Joined) (slice : List NetPins) (is_slice : slice ≡ j.nets.items) (joined : IsJoined x.library x.netlist x.constraints j) where
  slice_is : slice ≡ map without_arcs (bare.circuit x).nets
  slice_is = is_slice ∙ joined.nets

  slice_count : length slice ≡ length (bare.circuit x).nets
  slice_count = ap length slice_is ∙ length-mapped without_arcs (bare.circuit x).nets

  pub few_nets : count_fault x.netlist ≡ None → IsSoundLibrary x.library → IsSoundNetlist x.netlist → AreSoundConstraints x.constraints → length slice < 2 ^ 32
  few_nets counts lib net set =
      let few = (counts_kept x.netlist counts).nets in
      let size = nets_count x.library x.netlist x.constraints lib net set in
      omega (arith, few, size, slice_count)

  pub sink_quantities : IsSoundLibrary x.library → IsSoundNetlist x.netlist → AreSoundConstraints x.constraints → All HasSinkQuantities slice
  sink_quantities lib net set =
      subst (All HasSinkQuantities) (sym slice_is)
      (All-from_recursion HasSinkQuantities (map without_arcs (bare.circuit x).nets)
      (bare_quantities (bare.circuit x).nets (recursion_from_All HasSinkQuantities (bare.circuit x).nets (sinks_are_quantities x.library x.netlist x.constraints lib net set))))

  numbers : enumerate_from 0 slice ≡ map bare_number (bare.numbered x)
  numbers = ap (enumerate_from 0) slice_is ∙ numbered_bare 0 (bare.circuit x).nets

  module _ (pins : HasAcceptedPins x) where
    -- the fault of a wire
    pub wires_stop : (fault : LinkFault) → IsFirstFault x.netlist x.parasitics (enumerate_from 0 slice) fault → Links x (Err fault)
    wires_stop fault h =
        wires_refused x pins fault (first_same x.netlist x.parasitics fault (bare.numbered x) (subst (λ ns. IsFirstFault x.netlist x.parasitics ns fault) numbers h))

    pub wired : (ws : List NetWire) → AreWires x.netlist x.parasitics (enumerate_from 0 slice) ws → IsWired x j ws
    wired ws wires = record {
      accepted = pins;
      joined = joined;
      wires = subst (λ ps. AreWires x.netlist x.parasitics (enumerate_from 0 ps) ws) is_slice wires;
    }

    module _ (ws seen : List NetWire) (are_wires : AreWires x.netlist x.parasitics (enumerate_from 0 j.nets.items) ws) (is_seen : seen ≡ ws) where
      sliced : AreWires x.netlist x.parasitics (enumerate_from 0 slice) ws
      sliced = subst (λ ps. AreWires x.netlist x.parasitics (enumerate_from 0 ps) ws) (sym is_slice) are_wires

      pub wires_count : length seen ≡ length slice
      wires_count = ap length is_seen ∙ (sliced.count ∙ length-numbered 0 slice)

      are : AreWires x.netlist x.parasitics (bare.numbered x) ws
      are =
          wires_same x.netlist x.parasitics (bare.numbered x) ws (subst (λ ns. AreWires x.netlist x.parasitics ns ws) numbers sliced)

      accepted : HasAcceptedWires x
      accepted = record {
        pins = pins;
        wires = All-from_recursion (IsAcceptedWire x.netlist x.parasitics) (bare.numbered x) (accepted_by x.netlist x.parasitics (bare.numbered x) ws are.count are.each);
      }

      count : length ws ≡ length (bare.circuit x).nets
      count = are.count ∙ length-numbered 0 (bare.circuit x).nets

      abbrev parts : Parts
      parts = plain_parts x.library (bare.circuit x) ws

      module _ (n : Counts) (counted : AreCounts (bare.circuit x) n) where
        -- the limits that are tested before arcs and check points are made
        abbrev pub early : Option LinkFault
        early = sizes_fault (couplings_sum seen) (sum_by coefficients_of (plain_nets slice seen)) n.arcs (length x.library.tables) n.checks

        whole : size_fault (bare_parts x) ≡ or_fault early (reads_fault parts)
        whole =
            let couplings : couplings_sum seen ≡ sum_by (λ (m : Net). length m.couplings) (plain_nets (bare.circuit x).nets ws) = ap couplings_sum is_seen ∙ couplings_same (bare.circuit x).nets ws count in
            let coefficients : sum_by coefficients_of (plain_nets slice seen) ≡ sum_by coefficients_of (plain_nets (bare.circuit x).nets ws) =
            ap (λ ps. sum_by coefficients_of (plain_nets ps seen)) slice_is
            ∙ (ap (λ vs. sum_by coefficients_of (plain_nets (map without_arcs (bare.circuit x).nets) vs)) is_seen ∙ coefficients_same (bare.circuit x).nets ws) in
            let arcs : n.arcs ≡ sum_by (λ (m : Net). length m.arcs) (plain_nets (bare.circuit x).nets ws) = counted.arcs ∙ arcs_same (bare.circuit x).nets ws count in
            let same : early ≡ sizes_fault (sum_by (λ (m : Net). length m.couplings) parts.nets) (sum_by coefficients_of parts.nets) (sum_by (λ (m : Net). length m.arcs) parts.nets)
            (length parts.tables) (length parts.checks) =
            sizes_same (couplings_sum seen) (sum_by coefficients_of (plain_nets slice seen)) n.arcs (length x.library.tables) n.checks
            (sum_by (λ (m : Net). length m.couplings) parts.nets) (sum_by coefficients_of parts.nets) (sum_by (λ (m : Net). length m.arcs) parts.nets) (length parts.checks)
            couplings coefficients arcs counted.checks in
            sym (sizes_are x ws are) ∙ (reads_last parts ∙ ap (λ o. or_fault o (reads_fault parts)) (sym same))

        pub sizes_stop : (fault : LinkFault) → IsFound early fault → Links x (Err fault)
        sizes_stop fault h = sizes_refused x accepted fault (subst (λ o. IsFound o fault) (sym whole) (found_first early (reads_fault parts) fault h))

        module _ (none : early ≡ None) where
          pub few_arcs : arcs_sum (bare.circuit x).nets ≤ most_arcs
          few_arcs =
              let checks : Option LinkFault = passed limits.Checks None n.checks most_checks in
              let tables : Option LinkFault = passed limits.Tables None (length x.library.tables) most_tables in
              let arcs : Option LinkFault = passed limits.Arcs None n.arcs most_arcs in
              let coefficients : Option LinkFault = passed limits.Coefficients None (sum_by coefficients_of (plain_nets slice seen)) most_coefficients in
              let one = both_kept (passed limits.Couplings None (couplings_sum seen) most_couplings) (or_fault coefficients (or_fault arcs (or_fault tables checks))) none in
              let two = both_kept coefficients (or_fault arcs (or_fault tables checks)) one.1 in
              let three = both_kept arcs (or_fault tables checks) two.1 in
              omega (arith, kept limits.Arcs None n.arcs most_arcs three.0, counted.arcs)

          module _ (c : Circuit) (circuit : c ≡ bare.circuit x) (nets : List NetPins) (is_nets : nets ≡ c.nets) where
            nets_are : nets ≡ (bare.circuit x).nets
            nets_are = is_nets ∙ ap (λ (d : Circuit). d.nets) circuit

            pub circuit_few : arcs_sum nets ≤ most_arcs
            circuit_few = subst (λ ps. arcs_sum ps ≤ most_arcs) (sym nets_are) few_arcs

            module _ (late : List NetWire) (is_late : late ≡ ws) where
              pub circuit_count : length late ≡ length nets
              circuit_count = ap length is_late ∙ (count ∙ sym (ap length nets_are))

              read_of : parts.nets ≡ plain_nets nets late
              read_of = ap (λ ps. plain_nets ps ws) (sym nets_are) ∙ ap (plain_nets nets) (sym is_late)

              pub reads_stop : (fault : LinkFault) → ((d : Parts) → d.nets ≡ plain_nets nets late → IsFound (reads_fault d) fault) → Links x (Err fault)
              reads_stop fault h =
                  sizes_refused x accepted fault (subst (λ o. IsFound o fault) (sym whole) (found_behind early (reads_fault parts) fault none (h parts read_of)))

              pub gathered : ((d : Parts) → d.nets ≡ plain_nets nets late → reads_fault d ≡ None) → (g : Gathered) → g.circuit ≡ c → g.wires.items ≡ ws → IsGathered x g
              gathered reads g a b = record {
                accepted = accepted;
                sizes = whole ∙ (ap (λ o. or_fault o (reads_fault parts)) none ∙ reads parts read_of);
                circuit = a ∙ circuit;
                wires = subst (AreWires x.netlist x.parasitics (bare.numbered x)) (sym b) are;
              }
