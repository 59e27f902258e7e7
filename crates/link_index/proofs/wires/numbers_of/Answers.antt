use Rattle.link_index.proofs.FirstLaws.{places_all}
use Rattle.link_index.proofs.wires.numbers_of.Goals as goal

pub returns : goal.returns
returns c = record {
  each = places_all (λ i. i.name) c.instances.numbers c.instances.number c.instances.rest.now c.args.instances.now c.in_default.len_below c.instances.invariant.each;
}
