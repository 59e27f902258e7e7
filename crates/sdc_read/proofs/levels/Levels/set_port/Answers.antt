use Rattle.std.proofs.Common.{◌==◌, ◌∙◌, ap}
use Rattle.indexmap.specs.IndexMap.{insert_entry}
use Rattle.sdc_read.specs.Levels.{for_port}
use Rattle.sdc_read.proofs.OriginLaws.{port_put}
use Rattle.sdc_read.proofs.levels.Levels.set_port.Goals as goal

pub returns : goal.returns
returns c =
    port_put c.self.inside.said c.self.inside.bits.entries c.self.inside.ports.entries c.self.inside.inputs c.self.inside.outputs c.args.self.now c.self.view_is
    c.args.mention c.args.number c.requires.some c.requires.there c.for_port.result c.args.decl (c.for_port.ensures ∙ ap (for_port c.args.self.now.levels c.args.decl) c.role.ensures)
    c.insert.new.self.entries
    (c.in_ok-insert.ensures.entries ∙ ap (insert_entry (λ a b. a == b) c.self.inside.ports.entries c.args.decl) c.put_origins-origins.ensures)
