use Rattle.std.specs.Prelude.{map, position}
use Rattle.std.proofs.Common.{sym, ap, ◌∙◌}
use Rattle.std.specs.Str.{bytes_eq}
use Rattle.name_parts.specs.Parts.{whole}
use Rattle.name_parts.proofs.OwnLaws.{keys_same}
use Rattle.name_parts.proofs.table.PrefixedTable.number.Goals as goal

pub returns-in-None : goal.returns-in-None
returns-in-None g c =
    let entries = c.self.inside.table.entries in
    let t = bytes_eq (whole c.args.name) in
    c.in-None.ensures.index ∙ ap (position t) (sym (keys_same entries)) ∙ ap (λ es. position t (map (λ e. e.0) es)) c.self.view_is

pub returns-in-Some : goal.returns-in-Some
returns-in-Some g c =
    let entries = c.self.inside.table.entries in
    let t = bytes_eq (whole c.args.name) in
    c.in-Some.ensures.index ∙ ap (position t) (sym (keys_same entries)) ∙ ap (λ es. position t (map (λ e. e.0) es)) c.self.view_is
