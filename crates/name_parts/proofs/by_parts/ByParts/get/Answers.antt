use Rattle.std.proofs.Common.{◌∙◌, refl}
use Rattle.name_numbers.proofs.NameLaws.{value_looked_up}
use Rattle.name_parts.specs.Parts.{whole}
use Rattle.name_parts.proofs.by_parts.ByParts.get.Goals as goal

pub returns : goal.returns
returns g c =
    c.get.ensures.value ∙ (value_looked_up whole (whole c.args.name) c.self.inside.table.entries ∙ rw c.self.view_is refl)
