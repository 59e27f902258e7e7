use Rattle.std.proofs.Common.{ap, ◌∙◌, refl, not, map}
use Rattle.std.specs.Str.{bytes_eq}
use Rattle.name_numbers.proofs.NameLaws.{any_mapped, entered_mapped}
use Rattle.liberty_cells.proofs.names.SeenNames.enter.Goals as goal

pub returns-clause-fresh : goal.returns-clause-fresh
returns-clause-fresh c =
    let k = c.in_ok-fresh.ensures.added ∙ ap not (any_mapped (bytes_eq c.in_ok-kept.kept.items) (λ k. k.items) c.self.inside.set.keys) in
    k ∙ rw (c.in_ok-kept.ensures.ok, c.self.view_is) refl

pub returns-clause-entered : goal.returns-clause-entered
returns-clause-entered c =
    let k = ap (map (λ k. k.items)) c.in_ok-fresh.ensures.keys ∙ entered_mapped (λ k. k.items) c.in_ok-kept.kept c.self.inside.set.keys in
    k ∙ rw (c.in_ok-kept.ensures.ok, c.self.view_is) refl
