use Rattle.std.proofs.Common.{◌∙◌, ap}
use Rattle.indexmap.specs.IndexMap.{insert_entry}
use Rattle.sdc_read.specs.Ports.{same_bit}
use Rattle.sdc_read.proofs.OriginLaws.{bit_put}
use Rattle.sdc_read.proofs.levels.Levels.set_bit.Goals as goal

pub returns : goal.returns
returns c =
    bit_put c.self.inside.said c.self.inside.bits.entries c.self.inside.ports.entries c.self.inside.inputs c.self.inside.outputs c.args.self.now c.self.view_is
    c.args.mention c.args.number c.requires.some c.requires.there c.origins.result c.args.nets.now c.args.at c.origins.ensures c.insert.new.self.entries
    (c.in_ok-insert.ensures.entries ∙ ap (insert_entry same_bit c.self.inside.bits.entries c.args.at) c.put_origins-origins.ensures)
