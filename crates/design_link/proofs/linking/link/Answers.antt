use Rattle.std.proofs.Common.{◌≡◌, ◌∙◌, sym, ap, subst, Err}
use Rattle.std.proofs.lemmas.Result.{err_from_is_err_and}
use Rattle.std.specs.List.{All}
use Rattle.xt_model.specs.Tables.{IsTable}
use Rattle.link_rules.specs.declared.circuit.Circuit.{Circuit}
use Rattle.link_rules.specs.Bare.{Inputs}
use Rattle.link_rules.specs.Bare as bare
use Rattle.link_rules.specs.Link.{Links}
use Rattle.design_link.specs.declared.gathering.Gathered.{Gathered}
use Rattle.design_link.specs.Gathered.{IsGathered}
use Rattle.design_link.specs.Nets.{FitAll, AreMade}
use Rattle.design_link.proofs.LinkedLaws.{fit_all, named, loop_refused, clocked_is, clocked_sound, linked, unclocked_is, unclocked_sound, unclocked_refused, linked_unclocked, period_kept}
use Rattle.design_link.proofs.linking.link.Goals as goal

pub nets_of-requires : goal.nets_of-requires
nets_of-requires c =
    let x : Inputs = record { library = c.args.library.now; netlist = c.args.netlist.now; parasitics = c.args.parasitics.now; constraints = c.args.constraints.now } in
    let g : Gathered = c.in_ok-circuit.field-0 in
    let is : IsGathered x g = c.in_ok-circuit.ensures.ok in
    subst (λ ps. FitAll ps g.wires.items) (sym c.into_vec.ensures) (fit_all x g is)

pub design_of-requires-clause-sound : goal.design_of-requires-clause-sound
design_of-requires-clause-sound c =
    let x : Inputs = record { library = c.args.library.now; netlist = c.args.netlist.now; parasitics = c.args.parasitics.now; constraints = c.args.constraints.now } in
    let g : Gathered = c.in_ok-circuit.field-0 in
    let is : IsGathered x g = c.in_ok-circuit.ensures.ok in
    let made : AreMade g.circuit.nets g.wires.items c.in_ok-nets.nets.items = subst (λ ps. AreMade ps g.wires.items c.in_ok-nets.nets.items) c.into_vec.ensures c.in_ok-nets.ensures in
    let checks : g.circuit.checks ≡ (bare.circuit x).checks = ap (λ (k : Circuit). k.checks) is.circuit in
    let tables : All IsTable x.library.tables = subst (All IsTable) c.in_ok-tables.ensures.value c.in_ok-tables.ensures.sound in
    clocked_sound x g is c.in_ok-nets.nets.items made c.requires.library c.requires.netlist c.requires.parasitics c.requires.constraints tables c.in-Some.clock c.in-Some.is _
    (clocked_is x g is c.in_ok-nets.nets.items made c.in-Some.clock c.in-Some.is _ (period_kept c.args.constraints.now c.in-Some.clock c.requires.constraints c.in-Some.is) c.in_ok-tables.tables c.in_ok-tables.ensures.value g.circuit.checks checks)

pub design_of-requires-clause-counts : goal.design_of-requires-clause-counts
design_of-requires-clause-counts c =
    let x : Inputs = record { library = c.args.library.now; netlist = c.args.netlist.now; parasitics = c.args.parasitics.now; constraints = c.args.constraints.now } in
    let g : Gathered = c.in_ok-circuit.field-0 in
    let is : IsGathered x g = c.in_ok-circuit.ensures.ok in
    is.accepted.pins.counts

pub design_of-requires-clause-names : goal.design_of-requires-clause-names
design_of-requires-clause-names c =
    let x : Inputs = record { library = c.args.library.now; netlist = c.args.netlist.now; parasitics = c.args.parasitics.now; constraints = c.args.constraints.now } in
    let g : Gathered = c.in_ok-circuit.field-0 in
    let is : IsGathered x g = c.in_ok-circuit.ensures.ok in
    let made : AreMade g.circuit.nets g.wires.items c.in_ok-nets.nets.items = subst (λ ps. AreMade ps g.wires.items c.in_ok-nets.nets.items) c.into_vec.ensures c.in_ok-nets.ensures in
    named x g is c.in_ok-nets.nets.items made

pub returns-in-Some : goal.returns-in-Some
returns-in-Some c =
    let x : Inputs = record { library = c.args.library.now; netlist = c.args.netlist.now; parasitics = c.args.parasitics.now; constraints = c.args.constraints.now } in
    let g : Gathered = c.in_ok-circuit.field-0 in
    let is : IsGathered x g = c.in_ok-circuit.ensures.ok in
    let made : AreMade g.circuit.nets g.wires.items c.in_ok-nets.nets.items = subst (λ ps. AreMade ps g.wires.items c.in_ok-nets.nets.items) c.into_vec.ensures c.in_ok-nets.ensures in
    let checks : g.circuit.checks ≡ (bare.circuit x).checks = ap (λ (k : Circuit). k.checks) is.circuit in
    linked x g is c.in_ok-nets.nets.items made c.in-Some.clock c.in-Some.is _ (period_kept c.args.constraints.now c.in-Some.clock c.requires.constraints c.in-Some.is) c.in_ok-tables.tables c.in_ok-tables.ensures.value g.circuit.checks checks c.design_of.result c.design_of.ensures

pub design_of-requires-in-None-clause-sound : goal.design_of-requires-in-None-clause-sound
design_of-requires-in-None-clause-sound c =
    let x : Inputs = record { library = c.args.library.now; netlist = c.args.netlist.now; parasitics = c.args.parasitics.now; constraints = c.args.constraints.now } in
    let g : Gathered = c.in_ok-circuit.field-0 in
    let is : IsGathered x g = c.in_ok-circuit.ensures.ok in
    let made : AreMade g.circuit.nets g.wires.items c.in_ok-nets.nets.items = subst (λ ps. AreMade ps g.wires.items c.in_ok-nets.nets.items) c.into_vec.ensures c.in_ok-nets.ensures in
    let checks : g.circuit.checks ≡ (bare.circuit x).checks = ap (λ (k : Circuit). k.checks) is.circuit in
    let tables : All IsTable x.library.tables = subst (All IsTable) c.in_ok-tables.ensures.value c.in_ok-tables.ensures.sound in
    unclocked_sound x g is c.in_ok-nets.nets.items made c.requires.library c.requires.netlist c.requires.parasitics c.requires.constraints tables _
    (unclocked_is x g is c.in_ok-nets.nets.items made c.in-None.is g.circuit.checks checks c.in_ok-tables.tables c.in_ok-tables.ensures.value _ (c.from_vec-none.ensures ∙ c.new.ensures.items))

pub design_of-requires-in-None-clause-counts : goal.design_of-requires-in-None-clause-counts
design_of-requires-in-None-clause-counts c =
    let x : Inputs = record { library = c.args.library.now; netlist = c.args.netlist.now; parasitics = c.args.parasitics.now; constraints = c.args.constraints.now } in
    let g : Gathered = c.in_ok-circuit.field-0 in
    let is : IsGathered x g = c.in_ok-circuit.ensures.ok in
    is.accepted.pins.counts

pub design_of-requires-in-None-clause-names : goal.design_of-requires-in-None-clause-names
design_of-requires-in-None-clause-names c =
    let x : Inputs = record { library = c.args.library.now; netlist = c.args.netlist.now; parasitics = c.args.parasitics.now; constraints = c.args.constraints.now } in
    let g : Gathered = c.in_ok-circuit.field-0 in
    let is : IsGathered x g = c.in_ok-circuit.ensures.ok in
    let made : AreMade g.circuit.nets g.wires.items c.in_ok-nets.nets.items = subst (λ ps. AreMade ps g.wires.items c.in_ok-nets.nets.items) c.into_vec.ensures c.in_ok-nets.ensures in
    named x g is c.in_ok-nets.nets.items made

pub returns-in_err-design-in-None : goal.returns-in_err-design-in-None
returns-in_err-design-in-None c =
    let x : Inputs = record { library = c.args.library.now; netlist = c.args.netlist.now; parasitics = c.args.parasitics.now; constraints = c.args.constraints.now } in
    let g : Gathered = c.in_ok-circuit.field-0 in
    let is : IsGathered x g = c.in_ok-circuit.ensures.ok in
    let made : AreMade g.circuit.nets g.wires.items c.in_ok-nets.nets.items = subst (λ ps. AreMade ps g.wires.items c.in_ok-nets.nets.items) c.into_vec.ensures c.in_ok-nets.ensures in
    let h : Links x (Err c.in_err-design-in-None.field-0.0) = loop_refused x g is c.in_ok-nets.nets.items made c.in_err-design-in-None.field-0.0 c.in_err-design-in-None.ensures in
    let p = err_from_is_err_and c.from_residual-in_err-design-in-None.result c.from_residual-in_err-design-in-None.ensures.1 in
    rw (p.1, p.2) h

pub returns-in_err-check_unclocked-in-None : goal.returns-in_err-check_unclocked-in-None
returns-in_err-check_unclocked-in-None c =
    let x : Inputs = record { library = c.args.library.now; netlist = c.args.netlist.now; parasitics = c.args.parasitics.now; constraints = c.args.constraints.now } in
    let g : Gathered = c.in_ok-circuit.field-0 in
    let is : IsGathered x g = c.in_ok-circuit.ensures.ok in
    let made : AreMade g.circuit.nets g.wires.items c.in_ok-nets.nets.items = subst (λ ps. AreMade ps g.wires.items c.in_ok-nets.nets.items) c.into_vec.ensures c.in_ok-nets.ensures in
    let checks : g.circuit.checks ≡ (bare.circuit x).checks = ap (λ (k : Circuit). k.checks) is.circuit in
    let slice : c.as_slice.result.now ≡ (bare.circuit x).checks = c.as_slice.ensures ∙ checks in
    let h : Links x (Err c.in_err-check_unclocked-in-None.field-0.0) =
    unclocked_refused x g is c.in_ok-nets.nets.items made c.in-None.is c.as_slice.result.now slice c.in_ok-design-in-None.ensures.1 c.in_err-check_unclocked-in-None.field-0.0 c.in_err-check_unclocked-in-None.ensures in
    let p = err_from_is_err_and c.from_residual-in_err-check_unclocked-in-None.result c.from_residual-in_err-check_unclocked-in-None.ensures.1 in
    rw (p.1, p.2) h

pub returns-in_ok-check_unclocked-in-None : goal.returns-in_ok-check_unclocked-in-None
returns-in_ok-check_unclocked-in-None c =
    let x : Inputs = record { library = c.args.library.now; netlist = c.args.netlist.now; parasitics = c.args.parasitics.now; constraints = c.args.constraints.now } in
    let g : Gathered = c.in_ok-circuit.field-0 in
    let is : IsGathered x g = c.in_ok-circuit.ensures.ok in
    let made : AreMade g.circuit.nets g.wires.items c.in_ok-nets.nets.items = subst (λ ps. AreMade ps g.wires.items c.in_ok-nets.nets.items) c.into_vec.ensures c.in_ok-nets.ensures in
    let checks : g.circuit.checks ≡ (bare.circuit x).checks = ap (λ (k : Circuit). k.checks) is.circuit in
    let slice : c.as_slice.result.now ≡ (bare.circuit x).checks = c.as_slice.ensures ∙ checks in
    linked_unclocked x g is c.in_ok-nets.nets.items made c.in-None.is c.as_slice.result.now slice c.in_ok-tables.tables c.in_ok-tables.ensures.value _ (c.from_vec-none.ensures ∙ c.new.ensures.items)
    c.in_ok-design-in-None.design c.in_ok-design-in-None.ensures c.in_ok-check_unclocked-in-None.ensures
