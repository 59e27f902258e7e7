use Rattle.std.proofs.Common.{◌≡◌, ◌++◌, ◌∷◌, ◌∙◌, [], Some, map, get_or, ap, sym, subst, arith}
use Rattle.std.specs.Prelude.{filter_map}
use Rattle.std.specs.List.{slice_get}
use Rattle.std.specs.Option.{option_to_list}
use Rattle.std.proofs.lemmas.List.{map-append, take_all}
use Rattle.std.proofs.lemmas.Option.{slice_get-get_or}
use Rattle.link_pins.specs.Places.{is_sink}
use Rattle.link_pins.specs.Related.{places_of, related_of, is_sink_at}
use Rattle.link_pins.proofs.ArcLaws.{made_more}
use Rattle.link_pins.proofs.FoundLaws.{Has, has_at, filtered}
use Rattle.link_pins.proofs.IndexLaws.{order_within}
use Rattle.link_pins.proofs.related.PinGroup.sinks.Goals as goal

pub get-requires : goal.get-requires
get-requires c =
    let at = c.args.places.now.at.items in
    let g = is_sink at in
    let v = c.args.self.now in
    let ps = c.as_slice-place-items.result.now in
    let m = get_or ps c.loop-place.place-index 0 in
    let are : ps ≡ places_of (is_sink_at at) 0 v.related.items = c.as_slice-place-items.ensures.value ∙ c.in_ok-order.ensures in
    let has : Has (places_of (is_sink_at at) 0 v.related.items) m =
    subst (λ l. Has l m) are (has_at ps c.loop-place.place-index m (slice_get-get_or ps c.loop-place.place-index 0 c.loop-place-test.true)) in
    order_within g v.related.items v.pins.items v.counts.items c.requires.indexed.placed m has

pub loop-place-preserved : goal.loop-place-preserved
loop-place-preserved c =
    let at = c.args.places.now.at.items in
    let g = is_sink at in
    let v = c.args.self.now in
    let ps = c.as_slice-place-items.result.now in
    let m = get_or ps c.loop-place.place-index 0 in
    let cur = c.loop-place.sinks.items in
    let are : ps ≡ places_of (is_sink_at at) 0 v.related.items = c.as_slice-place-items.ensures.value ∙ c.in_ok-order.ensures in
    let has : Has (places_of (is_sink_at at) 0 v.related.items) m =
    subst (λ l. Has l m) are (has_at ps c.loop-place.place-index m (slice_get-get_or ps c.loop-place.place-index 0 c.loop-place-test.true)) in
    let x = c.get.result in
    let there : slice_get v.related.items m ≡ Some (related_of x) = c.get.ensures in
    made_more (slice_get v.related.items) ps c.loop-place.place-index 0 [] (map related_of cur) (map related_of c.push.new.self.items) c.loop-place-test.true c.loop-place.invariant
    (ap (map related_of) c.in_ok-push.ensures.items ∙ (map-append related_of cur (x ∷ []) ∙ ap (λ o. map related_of cur ++ option_to_list o) (sym there)))

pub returns : goal.returns
returns c =
    let at = c.args.places.now.at.items in
    let v = c.args.self.now in
    let ps = c.as_slice-place-items.result.now in
    let are : ps ≡ places_of (is_sink_at at) 0 v.related.items = c.as_slice-place-items.ensures.value ∙ c.in_ok-order.ensures in
    c.loop-place.invariant
    ∙ (ap (filter_map (slice_get v.related.items)) (take_all c.loop-place.place-index ps c.loop-place-test.false)
    ∙ (ap (filter_map (slice_get v.related.items)) are ∙ filtered (is_sink_at at) v.related.items))
