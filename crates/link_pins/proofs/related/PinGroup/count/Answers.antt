use Rattle.std.proofs.Common.{◌≡◌, ◌+◌, ◌∙◌, ℕ, Some, get_or, ap, subst, arith}
use Rattle.std.specs.List.{slice_get, sum_by}
use Rattle.std.proofs.lemmas.List.{take_all}
use Rattle.std.proofs.lemmas.Option.{slice_get-get_or}
use Rattle.link_pins.specs.Places.{is_sink}
use Rattle.link_pins.specs.Related.{places_of}
use Rattle.link_pins.proofs.FoundLaws.{Has, has_at}
use Rattle.link_pins.proofs.IndexLaws.{count_of, counts_found, found_within, next_count}
use Rattle.link_pins.proofs.KeptLaws.{read_there}
use Rattle.link_pins.proofs.related.PinGroup.count.Goals as goal

pub index-requires : goal.index-requires
index-requires c =
    let g = is_sink c.args.places.now.at.items in
    let v = c.args.self.now in
    let js = c.as_slice-at-items.result.now in
    let m = get_or js c.loop-at.at-index 0 in
    let are : js ≡ places_of g 0 v.pins.items = c.as_slice-at-items.ensures.value ∙ (c.in_ok-found.ensures ∙ ap (places_of g 0) c.deref.ensures.value) in
    let has : Has (places_of g 0 v.pins.items) m = subst (λ l. Has l m) are (has_at js c.loop-at.at-index m (slice_get-get_or js c.loop-at.at-index 0 c.loop-at-test.true)) in
    omega (arith, found_within g v.related.items v.pins.items v.counts.items c.requires.indexed.placed m has, v.counts.ok.0)

pub loop-at-preserved : goal.loop-at-preserved
loop-at-preserved c =
    let g = is_sink c.args.places.now.at.items in
    let v = c.args.self.now in
    let js = c.as_slice-at-items.result.now in
    let m = get_or js c.loop-at.at-index 0 in
    let are : js ≡ places_of g 0 v.pins.items = c.as_slice-at-items.ensures.value ∙ (c.in_ok-found.ensures ∙ ap (places_of g 0) c.deref.ensures.value) in
    let has : Has (places_of g 0 v.pins.items) m = subst (λ l. Has l m) are (has_at js c.loop-at.at-index m (slice_get-get_or js c.loop-at.at-index 0 c.loop-at-test.true)) in
    let there : slice_get v.counts.items m ≡ Some c.index.result.now =
    read_there v.counts.items m _ c.index.result.now (found_within g v.related.items v.pins.items v.counts.items c.requires.indexed.placed m has) c.index.ensures in
    next_count v.counts.items js c.loop-at.at-index c.loop-at.count c.in_ok-count.count c.index.result.now c.loop-at-test.true c.loop-at.invariant there (c.in_ok-count.ensures ∙ ap (λ n. c.loop-at.count + n) c.from.ensures)

pub returns : goal.returns
returns c =
    let g = is_sink c.args.places.now.at.items in
    let v = c.args.self.now in
    let js = c.as_slice-at-items.result.now in
    let f : ℕ → ℕ = λ j. count_of (slice_get v.counts.items j) in
    let are : js ≡ places_of g 0 v.pins.items = c.as_slice-at-items.ensures.value ∙ (c.in_ok-found.ensures ∙ ap (places_of g 0) c.deref.ensures.value) in
    c.loop-at.invariant
    ∙ (ap (sum_by f) (take_all c.loop-at.at-index js c.loop-at-test.false)
    ∙ (ap (sum_by f) are ∙ counts_found g v.related.items v.pins.items v.counts.items c.requires.indexed.placed))
