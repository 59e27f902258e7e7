use Rattle.link_index.proofs.FirstLaws.{places_all}
use Rattle.link_index.proofs.places.pin_places.Goals as goal

pub returns : goal.returns
returns c = record {
  each = places_all (λ p. p.name) c.pins.places c.pins.place c.pins.rest.now c.args.pins.now c.in_default.len_below c.pins.invariant.each;
}
