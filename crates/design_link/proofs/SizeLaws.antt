-- The sizes of a design by the pins and the wires of its nets are those of the design.
use Rattle.std.specs.Prelude.{◌≡◌, refl, ℕ, suc, ◌+◌, List, [], ◌∷◌, length, map, ℤ, pos, Option, Some, None, option_map}
use Rattle.std.specs.List.{enumerate_from, slice_get, sum_by}
use Rattle.std.proofs.Common.{arith, sym, ap, ◌∙◌}
use Rattle.xt_model.specs.declared.fault.LimitKind.TheVariants as limits
use Rattle.xt_model.specs.declared.net.Coupling.{Coupling}
use Rattle.xt_model.specs.declared.net.Net.{Net}
use Rattle.xt_model.specs.Limits.{most_tables, most_checks, most_couplings, most_coefficients, most_arcs, most_reads}
use Rattle.xt_model.specs.Miller.{classical}
use Rattle.xt_model.specs.Parts.{Parts}
use Rattle.xt_model.specs.Sound.{coefficients_of, reads_of}
use Rattle.verilog_net.specs.declared.netlist.Netlist.{Netlist}
use Rattle.spef_read.specs.declared.parasitics.Parasitics.{Parasitics}
use Rattle.elmore_tree.specs.Trees.{TreeParts, ground_sum}
use Rattle.link_rules.specs.declared.circuit.NetPins.{NetPins}
use Rattle.link_rules.specs.declared.fault.LinkFault.{LinkFault}
use Rattle.link_rules.specs.Bare.{Inputs, bare_net, bare_nets, bare_parts}
use Rattle.link_rules.specs.Bare as bare
use Rattle.link_rules.specs.Limits.{or_fault, passed, size_fault}
use Rattle.link_wires.specs.declared.wire.NetWire.{NetWire}
use Rattle.link_wires.specs.Wires.{IsWireOf, AreWires}
use Rattle.design_link.specs.Nets.{plain_sink}
use Rattle.design_link.specs.Sizes.{plain_net, plain_nets, plain_parts}
use Rattle.design_link.proofs.FillLaws.{all_reads}
use Rattle.design_link.proofs.Lists.{length-numbered}

-- the fault of these sizes
abbrev pub fault_by : ℕ → ℕ → ℕ → ℕ → ℕ → ℕ → Option LinkFault
fault_by couplings coefficients arcs tables checks reads =
    or_fault (passed limits.Couplings None couplings most_couplings)
    (or_fault (passed limits.Coefficients None coefficients most_coefficients)
    (or_fault (passed limits.Arcs None arcs most_arcs)
    (or_fault (passed limits.Tables None tables most_tables)
    (or_fault (passed limits.Checks None checks most_checks)
    (passed limits.Reads None reads most_reads)))))

pub size_fault_is : (d : Parts) → size_fault d ≡ fault_by (sum_by (λ n. length n.couplings) d.nets) (sum_by coefficients_of d.nets) (sum_by (λ n. length n.arcs) d.nets)
    (length d.tables) (length d.checks) (sum_by (reads_of d) d.nets)
unfolding size_fault
size_fault_is d = refl

-- the period does not count
pub period_apart : (d : Parts) (period : Option ℤ) → size_fault (record d { period = period }) ≡ size_fault d
period_apart d period =
    let e : Parts = record d { period = period } in
    size_fault_is e ∙ (ap (fault_by (sum_by (λ n. length n.couplings) d.nets) (sum_by coefficients_of d.nets) (sum_by (λ n. length n.arcs) d.nets) (length d.tables) (length d.checks))
    (all_reads e d (λ k. refl) d.nets) ∙ sym (size_fault_is d))

module _ (netlist : Netlist) (parasitics : Parasitics) where
  net_is : (k : ℕ) (p : NetPins) (w : NetWire) → IsWireOf netlist parasitics (k, p) w → plain_net p w ≡ bare_net netlist parasitics (k, p)
  unfolding bare_net
  net_is k p w h =
      let made : TreeParts → List Coupling → Net = λ tree couplings. record {
        name = p.name;
        input = p.input;
        load = pos (ground_sum tree.ground);
        given = p.given;
        couplings = couplings;
        sinks = map plain_sink p.sinks;
        arcs = p.arcs;
      } in
      ap (λ t. made t w.couplings) h.tree ∙ ap (made (bare.tree netlist parasitics (k, p))) h.couplings

  pub nets_are : (ps : List NetPins) (ws : List NetWire) (k : ℕ) → length ws ≡ length ps
      → ((i : ℕ) (n : bare.Numbered) (w : NetWire) → slice_get (enumerate_from k ps) i ≡ Some n → slice_get ws i ≡ Some w → IsWireOf netlist parasitics n w)
      → plain_nets ps ws ≡ map (bare_net netlist parasitics) (enumerate_from k ps)
  nets_are [] ws k a all = refl
  nets_are (p ∷ ps) [] k a all = absurd (omega (arith, a))
  nets_are (p ∷ ps) (w ∷ ws) k a all =
      let first : plain_net p w ≡ bare_net netlist parasitics (k, p) = net_is k p w (all 0 (k, p) w refl refl) in
      let rest : plain_nets ps ws ≡ map (bare_net netlist parasitics) (enumerate_from (k + 1) ps) = nets_are ps ws (k + 1) (omega (arith, a)) (λ i. all (suc i)) in
      ap (λ n. n ∷ plain_nets ps ws) first ∙ ap (λ ns. bare_net netlist parasitics (k, p) ∷ ns) rest

module _ (x : Inputs) (ws : List NetWire) (are : AreWires x.netlist x.parasitics (bare.numbered x) ws) where
  count : length ws ≡ length (bare.circuit x).nets
  count = are.count ∙ length-numbered 0 (bare.circuit x).nets

  pub sizes_are : size_fault (plain_parts x.library (bare.circuit x) ws) ≡ size_fault (bare_parts x)
  unfolding bare_parts bare_nets
  sizes_are =
      let period : Option ℤ = option_map (λ c. c.period) x.constraints.clock in
      let with : List Net → Parts = λ nets. record { period = period; tables = x.library.tables; nets = nets; checks = (bare.circuit x).checks; miller = classical } in
      sym (period_apart (plain_parts x.library (bare.circuit x) ws) period)
      ∙ ap (λ nets. size_fault (with nets)) (nets_are x.netlist x.parasitics (bare.circuit x).nets ws 0 count are.each)
