-- The limits of linking, in the order in which they are tested.
use Rattle.std.specs.Prelude.{ℕ, nat_le, ◌^◌, ◌+◌, ◌*◌, length, sum_by, Option, Some, None, if◌then◌else◌}
use Rattle.name_numbers.specs.Names.{Text}
use Rattle.xt_model.specs.declared.fault.LimitKind.{LimitKind}
use Rattle.xt_model.specs.declared.fault.LimitKind.TheVariants as limits
use Rattle.xt_model.specs.Limits.{most_nets, most_tables, most_checks, most_couplings, most_coefficients, most_arcs}
use Rattle.xt_model.specs.Limits.{most_reads, most_instances}
use Rattle.xt_model.specs.Parts.{Parts}
use Rattle.xt_model.specs.Sound.{coefficients_of, reads_of}
use Rattle.verilog_net.specs.declared.netlist.Netlist.{Netlist}
use Rattle.elmore_tree.specs.Trees.{TreeParts, ground_sum, tap_sum}
use Rattle.link_rules.specs.declared.fault.LinkFault.{LinkFault}
use Rattle.link_rules.specs.declared.fault.LinkFault.TheVariants as faults
use Rattle.verilog_net.specs.Bits.{bits}

-- the greatest load of a net, in aF
abbrev pub most_load : ℕ
most_load = 2 ^ 46

-- a first fault, or else a second
abbrev pub or_fault : Option LinkFault → Option LinkFault → Option LinkFault
or_fault (Some fault) other = Some fault
or_fault None other = other

-- what is passed by more than the most
abbrev pub passed : LimitKind → Option Text → ℕ → ℕ → Option LinkFault
passed what name value most = if nat_le value most then None else Some (faults.Limit what name value)

-- the nets of a netlist, then its instances
unfoldable pub count_fault : Netlist → Option LinkFault
count_fault netlist =
    or_fault (passed limits.Nets None (length (bits netlist.nets)) most_nets)
    (passed limits.Instances None (length netlist.instances) most_instances)

-- the sizes of a design, in their order; the forms of its wires do not count
unfoldable pub size_fault : Parts → Option LinkFault
size_fault d =
    or_fault (passed limits.Couplings None (sum_by (λ n. length n.couplings) d.nets) most_couplings)
    (or_fault (passed limits.Coefficients None (sum_by coefficients_of d.nets) most_coefficients)
    (or_fault (passed limits.Arcs None (sum_by (λ n. length n.arcs) d.nets) most_arcs)
    (or_fault (passed limits.Tables None (length d.tables) most_tables)
    (or_fault (passed limits.Checks None (length d.checks) most_checks)
    (passed limits.Reads None (sum_by (reads_of d) d.nets) most_reads)))))

-- the greatest load of a tree in aF: all ground, and each tap twice
abbrev pub greatest_load : TreeParts → ℕ
greatest_load t = ground_sum t.ground + 2 * tap_sum t.taps
