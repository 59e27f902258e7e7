use Rattle.std.proofs.Common.{◌≡◌, ◌++◌, ◌∙◌, ℕ, List, [], Some, get_or, ap, sym, subst, arith}
use Rattle.std.specs.Prelude.{flat_map}
use Rattle.std.specs.List.{slice_get}
use Rattle.std.proofs.lemmas.List.{take_all}
use Rattle.std.proofs.lemmas.List.Filters.{dedup_is}
use Rattle.std.proofs.lemmas.Option.{slice_get-get_or}
use Rattle.link_pins.specs.Places.{is_sink}
use Rattle.link_pins.specs.Related.{places_of}
use Rattle.link_pins.proofs.FoundLaws.{Has, has_at}
use Rattle.link_pins.proofs.IndexLaws.{found_within, order_found, places_by}
use Rattle.link_pins.proofs.KeptLaws.{read_there}
use Rattle.link_pins.proofs.TimingLaws.{flat_more}
use Rattle.link_pins.proofs.related.PinGroup.order.Goals as goal

pub index-requires : goal.index-requires
index-requires c =
    let g = is_sink c.args.places.now.at.items in
    let v = c.args.self.now in
    let js = c.as_slice-at-items.result.now in
    let m = get_or js c.loop-at.at-index 0 in
    let are : js ≡ places_of g 0 v.pins.items = c.as_slice-at-items.ensures.value ∙ (c.in_ok-found.ensures ∙ ap (places_of g 0) c.deref.ensures.value) in
    let has : Has (places_of g 0 v.pins.items) m = subst (λ l. Has l m) are (has_at js c.loop-at.at-index m (slice_get-get_or js c.loop-at.at-index 0 c.loop-at-test.true)) in
    omega (arith, found_within g v.related.items v.pins.items v.counts.items c.requires.indexed.placed m has, v.counts.ok.0)

pub loop-at-preserved : goal.loop-at-preserved
loop-at-preserved c =
    let g = is_sink c.args.places.now.at.items in
    let v = c.args.self.now in
    let js = c.as_slice-at-items.result.now in
    let m = get_or js c.loop-at.at-index 0 in
    let cur = c.loop-at.order.items in
    let f : ℕ → List ℕ = λ j. places_by (slice_get v.counts.items j) in
    let are : js ≡ places_of g 0 v.pins.items = c.as_slice-at-items.ensures.value ∙ (c.in_ok-found.ensures ∙ ap (places_of g 0) c.deref.ensures.value) in
    let has : Has (places_of g 0 v.pins.items) m = subst (λ l. Has l m) are (has_at js c.loop-at.at-index m (slice_get-get_or js c.loop-at.at-index 0 c.loop-at-test.true)) in
    let there : slice_get v.counts.items m ≡ Some c.index.result.now =
    read_there v.counts.items m _ c.index.result.now (found_within g v.related.items v.pins.items v.counts.items c.requires.indexed.placed m has) c.index.ensures in
    let step : c.add_to.new.places.items ≡ cur ++ f m = c.in_ok-add_to.ensures ∙ ap (λ o. cur ++ places_by o) (sym there) in
    flat_more f js c.loop-at.at-index 0 [] cur c.add_to.new.places.items c.loop-at-test.true c.loop-at.invariant step

pub returns : goal.returns
returns c =
    let g = is_sink c.args.places.now.at.items in
    let v = c.args.self.now in
    let js = c.as_slice-at-items.result.now in
    let f : ℕ → List ℕ = λ j. places_by (slice_get v.counts.items j) in
    let are : js ≡ places_of g 0 v.pins.items = c.as_slice-at-items.ensures.value ∙ (c.in_ok-found.ensures ∙ ap (places_of g 0) c.deref.ensures.value) in
    order_found g v.related.items v.pins.items v.counts.items c.requires.indexed.placed c.loop-at.order.items _ _
    (c.loop-at.invariant ∙ (ap (flat_map f) (take_all c.loop-at.at-index js c.loop-at-test.false) ∙ ap (flat_map f) are))
    c.sort_unstable.ensures.permutation c.sort_unstable.ensures.sorted (dedup_is _ _ _ c.dedup.ensures.filtered)
