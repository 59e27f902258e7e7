use Rattle.std.proofs.Common.{◌∙◌, refl}
use Rattle.name_numbers.proofs.NameLaws.{value_looked_up}
use Rattle.name_numbers.proofs.names.Named.get.Goals as goal

pub returns : goal.returns
returns g c =
    c.get.ensures.value ∙ (value_looked_up (λ k. k.bytes.now) c.args.name.now c.self.inside.table.entries ∙ rw c.self.view_is refl)
