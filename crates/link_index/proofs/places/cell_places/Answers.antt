use Rattle.link_index.proofs.FirstLaws.{places_all}
use Rattle.link_index.proofs.places.cell_places.Goals as goal

pub returns : goal.returns
returns c = record {
  each = places_all (λ x. x.name) c.cells.places c.cells.place c.cells.rest.now c.args.cells.now c.in_default.len_below c.cells.invariant.each;
}
