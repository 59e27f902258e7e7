use Rattle.std.proofs.Common.{rules, ◌≡◌, Some}
use Rattle.std.specs.Prelude.{None}
use Rattle.std.specs.Map.{lookup}
use Rattle.sdc_read.specs.Ports.{same_bit}
use Rattle.sdc_read.proofs.OriginLaws.{bit_found}
use Rattle.sdc_read.proofs.levels.Levels.own_bit.Goals as goal

pub returns-in-Some : goal.returns-in-Some
returns-in-Some c =
    let found : lookup (same_bit c.args.at) c.self.inside.bits.entries ≡ Some c.in-Some.origins.now = search rules in
    bit_found c.self.inside.said c.self.inside.bits.entries c.self.inside.ports.entries c.self.inside.inputs c.self.inside.outputs c.args.self.now c.self.view_is (same_bit c.args.at) (Some c.in-Some.origins.now) found

pub returns-in-None : goal.returns-in-None
returns-in-None c =
    let found : lookup (same_bit c.args.at) c.self.inside.bits.entries ≡ None = search rules in
    bit_found c.self.inside.said c.self.inside.bits.entries c.self.inside.ports.entries c.self.inside.inputs c.self.inside.outputs c.args.self.now c.self.view_is (same_bit c.args.at) None found
