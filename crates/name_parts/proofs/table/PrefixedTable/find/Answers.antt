use Rattle.std.proofs.Common.{sym, ◌∙◌, refl}
use Rattle.name_numbers.proofs.NameLaws.{not_found, found_at}
use Rattle.name_parts.specs.Parts.{whole}
use Rattle.name_parts.proofs.table.PrefixedTable.find.Goals as goal

pub returns-in-None : goal.returns-in-None
returns-in-None g c =
    let k = not_found (λ k. k) (whole c.parts.result) c.self.inside.table.entries (sym c.in-None.ensures.index) in
    sym k ∙ rw (c.parts.ensures, c.self.view_is) refl

pub returns-in-Some : goal.returns-in-Some
returns-in-Some g c =
    let k = found_at (λ k. k) (whole c.parts.result) c.self.inside.table.entries _ _ _ (sym c.in-Some.ensures.index) c.in-Some.ensures.entry in
    sym k ∙ rw (c.parts.ensures, c.self.view_is) refl
