use Rattle.std.proofs.Common.{◌≡◌, ◌≤◌, ◌∙◌, List, length, get_or, sym, ap, subst, arith}
use Rattle.std.specs.Prelude.{None}
use Rattle.std.specs.List.{All}
use Rattle.liberty_cells.specs.declared.library.Library.{Library}
use Rattle.verilog_net.specs.declared.netlist.Instance.{Instance}
use Rattle.verilog_net.specs.Sound.{IsSoundInstance}
use Rattle.link_rules.specs.Limits.{or_fault}
use Rattle.link_rules.specs.Pins.{cell_named}
use Rattle.link_rules.specs.Refusals.{cell_fault, instances_fault}
use Rattle.link_index.proofs.FirstLaws.{first_and_rest, rest_of}
use Rattle.link_pins.proofs.FaultLaws.{others}
use Rattle.link_pins.proofs.instances.check_instances.Goals as goal

-- an instance without a fault
passes : (library : Library) (rest : List Instance) (d : Instance) → 1 ≤ length rest → d ≡ get_or rest 0 d → cell_fault d (cell_named library d.cell) ≡ None
    → instances_fault library (rest_of rest) ≡ instances_fault library rest
passes library rest d some item none =
    sym (ap (instances_fault library) (first_and_rest rest d some)
    ∙ (ap (λ (i : Instance). or_fault (cell_fault i (cell_named library i.cell)) (instances_fault library (rest_of rest))) (sym item)
    ∙ ap (λ o. or_fault o (instances_fault library (rest_of rest))) none))

pub instances-init : goal.instances-init
instances-init c = record {
  same = ap (instances_fault c.args.cells.now) c.as_slice-rest.ensures;
  sound = subst (All IsSoundInstance) (sym c.as_slice-rest.ensures) c.requires.instances;
}

pub check_instance-requires : goal.check_instance-requires
check_instance-requires c =
    subst IsSoundInstance (sym c.instance-item.is) (c.instances.invariant.sound 0 c.instance-item.result (omega (arith, c.in-len1-up.len_at_least)))

pub instances-preserved : goal.instances-preserved
instances-preserved c = record {
  same =
      passes c.args.cells.now c.instances.rest.now c.instance-item.result c.in-len1-up.len_at_least c.instance-item.is c.in_ok-check_instance.ensures
      ∙ c.instances.invariant.same;
  sound = others IsSoundInstance c.instances.rest.now c.instance-item.result c.in-len1-up.len_at_least c.instances.invariant.sound;
}
