use Rattle.std.proofs.Common.{ap, ◌∙◌, refl, map}
use Rattle.name_numbers.proofs.NameLaws.{value_mapped, named}
use Rattle.name_parts.proofs.table.PrefixedTable.set.Goals as goal

pub returns-clause-given : goal.returns-clause-given
returns-clause-given g c =
    let k = ap (map (named (λ k. k))) c.in_ok-insert.ensures.entries ∙ value_mapped (λ k. k) c.self.inside.table.entries _ c.args.value in
    k ∙ rw (c.in_ok-kept.ensures, c.self.view_is) refl
