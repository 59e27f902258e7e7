use Rattle.std.proofs.Common.{ap, ◌∙◌, refl, map}
use Rattle.name_numbers.proofs.NameLaws.{value_mapped, named}
use Rattle.name_parts.specs.Parts.{whole}
use Rattle.name_parts.proofs.by_parts.ByParts.set.Goals as goal

pub returns-clause-given : goal.returns-clause-given
returns-clause-given g c =
    let k = ap (map (named whole)) c.in_ok-insert.ensures.entries ∙ value_mapped whole c.self.inside.table.entries c.args.name c.args.value in
    k ∙ rw c.self.view_is refl
