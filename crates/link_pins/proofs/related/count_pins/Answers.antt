use Rattle.std.proofs.Common.{◌≡◌, ◌+◌, ◌<◌, ◌∙◌, ◌++◌, ◌∷◌, [], length, take, Some, Err, Ok, refl, sym, ap, subst, arith}
use Rattle.std.specs.List.{Contains, slice_get}
use Rattle.std.proofs.lemmas.List.{length-take, take_more}
use Rattle.std.proofs.lemmas.Option.{get_or_from_slice_get, slice_get_within}
use Rattle.link_pins.specs.declared.related.PinCount.{PinCount}
use Rattle.link_pins.specs.Related.{related_of}
use Rattle.link_pins.specs.Timed.{TimedPlace}
use Rattle.link_pins.proofs.FoundLaws.{has_place, to_has}
use Rattle.link_pins.proofs.IndexLaws.{none_counted, count_next, own_count, search_is}
use Rattle.link_pins.proofs.related.count_pins.Goals as goal

pub loop-place-init : goal.loop-place-init
loop-place-init c = none_counted c.args.role c.args.pins.now c.args.counts.now c.requires.pins c.requires.none

pub unreachable-requires : goal.unreachable-requires
unreachable-requires c =
    let r = related_of c.get-one.result in
    let within : c.loop-place.place < length c.args.related.now.items = slice_get_within c.args.related.now.items c.loop-place.place r c.get-one.ensures in
    let is = get_or_from_slice_get c.args.related.now.items c.loop-place.place r r c.get-one.ensures in
    let known : Contains c.args.pins.now r.1 =
    subst (λ (x : TimedPlace). Contains c.args.pins.now x.1) is (c.requires.all c.loop-place.place r within) in
    let p = has_place c.args.pins.now r.1 (to_has c.args.pins.now r.1 known) in
    search_is c.args.pins.now c.requires.rising r.1 (Err c.in_default-binary_search.field-0) c.in_default-binary_search.ensures.position p.0 p.1

pub loop-place-preserved : goal.loop-place-preserved
loop-place-preserved c =
    let r = related_of c.get-one.result in
    let at = c.in-Ok-binary_search.at in
    let place = c.loop-place.place in
    let related = c.args.related.now.items in
    let within : place < length related = slice_get_within related place r c.get-one.ensures in
    let is = get_or_from_slice_get related place r r c.get-one.ensures in
    let there : slice_get c.args.pins.now at ≡ Some r.1 = search_is c.args.pins.now c.requires.rising r.1 (Ok at) c.in-Ok-binary_search.ensures.position in
    let u = own_count c.args.pins.now c.loop-place.counts c.loop-place.invariant.placed.same at r.1 there in
    let same = get_or_from_slice_get c.loop-place.counts at u.0 c.index-counts-at.result u.1 in
    let long : length (take place related) ≡ place = omega (arith, length-take place related, within) in
    let push : take (place + 1) related ≡ take place related ++ r ∷ [] =
    take_more related place r within ∙ ap (λ x. take place related ++ x ∷ []) is in
    count_next c.args.role (take place related) (take (place + 1) related) r push c.args.pins.now c.loop-place.counts _ at u.0 c.add.new.self u.1 u.2 refl
    (c.in_ok-add.ensures.pin ∙ ap (λ (x : PinCount). x.pin) same)
    (c.in_ok-add.ensures.count ∙ (ap (λ (x : PinCount). x.count + c.effect.result) same ∙ ap (λ n. u.0.count + n) c.effect.ensures))
    (c.in_ok-add.ensures.places ∙ (ap (λ (x : PinCount). x.places ++ place ∷ []) same ∙ ap (λ n. u.0.places ++ n ∷ []) (sym long)))
    c.loop-place.invariant
