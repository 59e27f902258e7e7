use Rattle.std.proofs.Common.{◌≡◌, sym, subst, Err, None}
use Rattle.std.specs.Prelude.{IfOk, IfErr}
use Rattle.liberty_cells.specs.declared.library.Library.{Library}
use Rattle.verilog_net.specs.declared.netlist.Netlist.{Netlist}
use Rattle.verilog_net.specs.Sound.{IsSoundNetlist}
use Rattle.link_rules.specs.Limits.{count_fault}
use Rattle.link_rules.specs.Link.{Links}
use Rattle.design_link.specs.Gathered.{IsGathered}
use Rattle.design_link.proofs.LinkLaws.{counts_kept}
use Rattle.design_link.proofs.gathering.gather.Goals as goal

pub new-requires-clause-nets : goal.new-requires-clause-nets
new-requires-clause-nets c = (counts_kept c.args.netlist.now c.in_ok-check_counts.ensures).nets

pub new-requires-clause-instances : goal.new-requires-clause-instances
new-requires-clause-instances c = (counts_kept c.args.netlist.now c.in_ok-check_counts.ensures).instances

pub gather_by-requires-clause-netlist : goal.gather_by-requires-clause-netlist
gather_by-requires-clause-netlist c = subst IsSoundNetlist (sym c.in_ok-index.ensures) c.requires.netlist

pub gather_by-requires-clause-counts : goal.gather_by-requires-clause-counts
gather_by-requires-clause-counts c = subst (λ (n : Netlist). count_fault n ≡ None) (sym c.in_ok-index.ensures) c.in_ok-check_counts.ensures

pub returns-clause-ok : goal.returns-clause-ok
returns-clause-ok c =
    let P : Library → Netlist → Type 0 = λ l n.
    IfOk c.gather_by.result (IsGathered (record { library = l; netlist = n; parasitics = c.args.parasitics.now; constraints = c.args.constraints.now })) in
    subst (λ (l : Library). P l c.args.netlist.now) c.in_ok-cells.ensures (subst (P c.in_ok-cells.cells) c.in_ok-index.ensures c.gather_by.ensures.ok)

pub returns-clause-fault : goal.returns-clause-fault
returns-clause-fault c =
    let P : Library → Netlist → Type 0 = λ l n.
    IfErr c.gather_by.result (λ f. Links (record { library = l; netlist = n; parasitics = c.args.parasitics.now; constraints = c.args.constraints.now }) (Err f)) in
    subst (λ (l : Library). P l c.args.netlist.now) c.in_ok-cells.ensures (subst (P c.in_ok-cells.cells) c.in_ok-index.ensures c.gather_by.ensures.fault)
