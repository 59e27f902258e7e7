use Rattle.std.proofs.Common.{◌∙◌, ap, refl}
use Rattle.miller_bits.specs.Victims.{VictimEdge}
use Rattle.miller_bits.proofs.Sums.{pin_at, pin_sound, wire_is}
use Rattle.miller_bits.proofs.wire.wire_ranges.Goals as goal

pub bounds-as_slice-sink : goal.bounds-as_slice-sink
bounds-as_slice-sink g c = rw c.as_slice.ensures (rw (← c.a.view_is) at c.requires.sink)

pub product_sums-requires-clause-net : goal.product_sums-requires-clause-net
product_sums-requires-clause-net g c = c.requires.net

pub product_sums-requires-clause-few : goal.product_sums-requires-clause-few
product_sums-requires-clause-few g c = rw (← c.a.view_is) c.a.invariant.few

pub product_sums-requires-clause-sink : goal.product_sums-requires-clause-sink
product_sums-requires-clause-sink g c =
    let there = pin_at c.as_slice.result.now c.a.inside.net.now.sinks c.args.sink c.index-as_slice-sink.result c.as_slice.ensures (rw (← c.a.view_is) at c.requires.sink) c.index-as_slice-sink.is in
    rw (← c.a.view_is) (pin_sound c.a.inside.design.now c.a.inside.number.0 c.a.inside.net.now c.args.sink c.index-as_slice-sink.result c.a.invariant.sound there)

pub delays_of-requires : goal.delays_of-requires
delays_of-requires g c = c.product_sums.ensures.a_range

pub delays_of-requires-2 : goal.delays_of-requires-2
delays_of-requires-2 g c = c.product_sums.ensures.b_range

pub returns-clause-a_range : goal.returns-clause-a_range
returns-clause-a_range g c = c.delays_of.ensures.range

pub returns-clause-b_range : goal.returns-clause-b_range
returns-clause-b_range g c = c.delays_of-2.ensures.range

pub returns-clause-a_least : goal.returns-clause-a_least
returns-clause-a_least g c =
    let same = c.as_slice.ensures ∙ ap (λ (v : VictimEdge). v.net.sinks) c.a.view_is in
    let there = pin_at c.as_slice.result.now c.args.a.now.net.sinks c.args.sink c.index-as_slice-sink.result same c.requires.sink c.index-as_slice-sink.is in
    wire_is c.args.a.now.least c.args.a.now.net c.args.sink c.index-as_slice-sink.result _ _ _ _ there refl c.delays_of.ensures.least refl c.product_sums.ensures.a_least

pub returns-clause-a_greatest : goal.returns-clause-a_greatest
returns-clause-a_greatest g c =
    let same = c.as_slice.ensures ∙ ap (λ (v : VictimEdge). v.net.sinks) c.a.view_is in
    let there = pin_at c.as_slice.result.now c.args.a.now.net.sinks c.args.sink c.index-as_slice-sink.result same c.requires.sink c.index-as_slice-sink.is in
    wire_is c.args.a.now.greatest c.args.a.now.net c.args.sink c.index-as_slice-sink.result _ _ _ _ there refl c.delays_of.ensures.greatest refl c.product_sums.ensures.a_greatest

pub returns-clause-b_least : goal.returns-clause-b_least
returns-clause-b_least g c =
    let same = c.as_slice.ensures ∙ ap (λ (v : VictimEdge). v.net.sinks) c.a.view_is in
    let there = pin_at c.as_slice.result.now c.args.a.now.net.sinks c.args.sink c.index-as_slice-sink.result same c.requires.sink c.index-as_slice-sink.is in
    rw c.requires.net (wire_is c.args.b.now.least c.args.a.now.net c.args.sink c.index-as_slice-sink.result _ _ _ _ there refl c.delays_of-2.ensures.least refl c.product_sums.ensures.b_least)

pub returns-clause-b_greatest : goal.returns-clause-b_greatest
returns-clause-b_greatest g c =
    let same = c.as_slice.ensures ∙ ap (λ (v : VictimEdge). v.net.sinks) c.a.view_is in
    let there = pin_at c.as_slice.result.now c.args.a.now.net.sinks c.args.sink c.index-as_slice-sink.result same c.requires.sink c.index-as_slice-sink.is in
    rw c.requires.net (wire_is c.args.b.now.greatest c.args.a.now.net c.args.sink c.index-as_slice-sink.result _ _ _ _ there refl c.delays_of-2.ensures.greatest refl c.product_sums.ensures.b_greatest)
