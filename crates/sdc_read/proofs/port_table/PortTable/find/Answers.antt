use Rattle.std.proofs.Common.{rules, ◌≡◌, ap, ◌∙◌}
use Rattle.std.specs.Prelude.{Some, None}
use Rattle.sdc_read.specs.declared.ports.PortBit.{PortBit}
use Rattle.sdc_read.specs.Levels.{known}
use Rattle.sdc_read.specs.Ports.{settled, port_at}
use Rattle.sdc_read.proofs.TableLaws.{known_meant, known_in_range}
use Rattle.sdc_read.proofs.port_table.PortTable.find.Goals as goal

pub settled-requires : goal.settled-requires
settled-requires c =
    let at : PortBit = record { decl = c.args.decl; bit = c.args.bit } in
    let found : Some c.in-Some.numbers ≡ known c.self.inside.nets.items c.self.inside.clock c.self.inside.own c.self.inside.levels.levels at = search rules in
    rw c.sides.ensures
    (known_in_range c.self.inside.nets.items c.self.inside.levels.said at (Some c.in-Some.numbers) (found ∙ c.self.invariant.0 at) c.self.invariant.1)

pub returns-in-Some-clause-value : goal.returns-in-Some-clause-value
returns-in-Some-clause-value c =
    let at : PortBit = record { decl = c.args.decl; bit = c.args.bit } in
    let found : Some c.in-Some.numbers ≡ known c.self.inside.nets.items c.self.inside.clock c.self.inside.own c.self.inside.levels.levels at = search rules in
    ap Some (c.settled.ensures.value ∙ ap (λ s. settled (at, s)) c.sides.ensures)
    ∙ (known_meant c.self.inside.nets.items c.self.inside.levels.said at (Some c.in-Some.numbers) (found ∙ c.self.invariant.0 at)
    ∙ ap (port_at c.args.decl c.args.bit) c.self.view_is)

pub returns-in-None-clause-value : goal.returns-in-None-clause-value
returns-in-None-clause-value c =
    let at : PortBit = record { decl = c.args.decl; bit = c.args.bit } in
    let found : None ≡ known c.self.inside.nets.items c.self.inside.clock c.self.inside.own c.self.inside.levels.levels at = search rules in
    known_meant c.self.inside.nets.items c.self.inside.levels.said at None (found ∙ c.self.invariant.0 at)
    ∙ ap (port_at c.args.decl c.args.bit) c.self.view_is
