use Rattle.std.proofs.Common.{rules, ◌≡◌, ◌==◌, Some}
use Rattle.std.specs.Prelude.{None}
use Rattle.std.specs.Map.{lookup}
use Rattle.sdc_read.proofs.OriginLaws.{port_found}
use Rattle.sdc_read.proofs.levels.Levels.own_port.Goals as goal

pub returns-in-Some : goal.returns-in-Some
returns-in-Some c =
    let found : lookup (λ d. c.args.decl == d) c.self.inside.ports.entries ≡ Some c.in-Some.origins.now = search rules in
    port_found c.self.inside.said c.self.inside.bits.entries c.self.inside.ports.entries c.self.inside.inputs c.self.inside.outputs c.args.self.now c.self.view_is (λ d. c.args.decl == d) (Some c.in-Some.origins.now) found

pub returns-in-None : goal.returns-in-None
returns-in-None c =
    let found : lookup (λ d. c.args.decl == d) c.self.inside.ports.entries ≡ None = search rules in
    port_found c.self.inside.said c.self.inside.bits.entries c.self.inside.ports.entries c.self.inside.inputs c.self.inside.outputs c.args.self.now c.self.view_is (λ d. c.args.decl == d) None found
