use Rattle.std.specs.Prelude.{map}
use Rattle.std.proofs.Common.{sym, ap, subst, ◌∙◌}
use Rattle.name_parts.specs.Own.{HaveOwnNumbers}
use Rattle.name_parts.proofs.OwnLaws.{own_numbers, keys_same}
use Rattle.name_parts.proofs.table.PrefixedTable.len.Goals as goal

pub returns-clause-own : goal.returns-clause-own
returns-clause-own g c =
    let entries = c.self.inside.table.entries in
    subst HaveOwnNumbers (sym (keys_same entries) ∙ ap (map (λ e. e.0)) c.self.view_is) (own_numbers (map (λ e. e.0) entries) c.len.ensures.unique)
