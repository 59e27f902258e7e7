use Rattle.std.specs.Prelude.{IfOk, IfErr}
use Rattle.std.specs.List.{enumerate_from}
use Rattle.std.proofs.Common.{subst}
use Rattle.link_wires.specs.Wires.{AreWires, IsFirstFault}
use Rattle.link_wires.proofs.wire.wires.Goals as goal

pub returns-clause-ok : goal.returns-clause-ok
returns-clause-ok c =
    subst (λ n. IfOk c.wires_by.result (λ v. AreWires n c.args.parasitics.now (enumerate_from 0 c.args.nets.now) v.items)) c.in_ok-found.ensures c.wires_by.ensures.ok

pub returns-clause-fault : goal.returns-clause-fault
returns-clause-fault c =
    subst (λ n. IfErr c.wires_by.result (IsFirstFault n c.args.parasitics.now (enumerate_from 0 c.args.nets.now))) c.in_ok-found.ensures c.wires_by.ensures.fault
