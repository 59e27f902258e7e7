use Rattle.std.proofs.Common.{ap, ◌∙◌, refl, map}
use Rattle.name_numbers.proofs.NameLaws.{value_mapped, value_looked_up, named}
use Rattle.name_numbers.proofs.names.Named.replace.Goals as goal

pub returns-clause-given : goal.returns-clause-given
returns-clause-given g c =
    let k = ap (map (named (λ k. k.bytes.now))) c.in_ok-insert.ensures.entries ∙ value_mapped (λ k. k.bytes.now) c.self.inside.table.entries _ c.args.value in
    k ∙ rw c.self.view_is refl

pub returns-clause-old : goal.returns-clause-old
returns-clause-old g c =
    c.in_ok-insert.ensures.old ∙ (value_looked_up (λ k. k.bytes.now) c.args.name.now c.self.inside.table.entries ∙ rw c.self.view_is refl)
