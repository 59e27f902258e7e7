use Rattle.std.proofs.Common.{◌≡◌, sym, ap, ◌∙◌}
use Rattle.std.specs.Str.{bytes_eq}
use Rattle.link_index.specs.Cells.{cell_place}
use Rattle.link_index.proofs.FirstLaws.{find_at_place, places_within}
use Rattle.link_index.proofs.cells.CellIndex.cell.Goals as goal

pub returns-clause-place : goal.returns-clause-place
returns-clause-place c =
    c.copied.ensures ∙ c.get.ensures ∙ c.self.invariant.cells.each c.args.name.now
    ∙ ap (λ l. cell_place l c.args.name.now) c.self.view_is

pub returns-clause-named : goal.returns-clause-named
returns-clause-named c =
    let place : c.copied.result ≡ cell_place c.args.self.now c.args.name.now =
    c.copied.ensures ∙ c.get.ensures ∙ c.self.invariant.cells.each c.args.name.now
    ∙ ap (λ l. cell_place l c.args.name.now) c.self.view_is in
    find_at_place (λ x. bytes_eq c.args.name.now x.name) c.args.self.now.cells c.copied.result (sym place)

pub returns-clause-there : goal.returns-clause-there
returns-clause-there c =
    let place : c.copied.result ≡ cell_place c.args.self.now c.args.name.now =
    c.copied.ensures ∙ c.get.ensures ∙ c.self.invariant.cells.each c.args.name.now
    ∙ ap (λ l. cell_place l c.args.name.now) c.self.view_is in
    places_within (λ x. bytes_eq c.args.name.now x.name) c.args.self.now.cells c.copied.result (sym place)
