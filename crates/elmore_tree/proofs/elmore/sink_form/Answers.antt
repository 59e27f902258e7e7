use Rattle.std.proofs.Common.{refl, ◌≡◌, ◌≤◌, ◌*◌, ◌∙◌, ap, arith, length, map, get_or, to_z}
use Rattle.std.specs.Int.{w128}
use Rattle.std.specs.Prelude.{pos}
use Rattle.std.specs.Int.RustNames.{unsigned_abs}
use Rattle.std.proofs.lemmas.Int.{ints}
use Rattle.std.proofs.lemmas.List.{take_all}
use Rattle.elmore_tree.specs.declared.part.Tap.{Tap}
use Rattle.elmore_tree.specs.Sums.{coefficient_of, base_of}
use Rattle.elmore_tree.specs.Walks.{path_of}
use Rattle.elmore_tree.proofs.GatherLaws.{shared_fits}
use Rattle.elmore_tree.proofs.FormLaws.{no_tap, cap_stored, common_at, place_within, tap_there, map_turn, stored, cap_fits, base_fits, sink_sums_fit}
use Rattle.elmore_tree.proofs.elmore.sink_form.Goals as goal

pub place-place-requires : goal.place-place-requires
place-place-requires c =
    let there = tap_there c.args.tree.now c.taps-tap-items.result.now c.loop-tap.tap-index no_tap c.taps-tap-items.ensures.sound c.taps-tap-items.ensures.value c.loop-tap-test.true in
    let count = c.requires.made.places.count in
    omega (arith, there, count)

pub bounds-row-place : goal.bounds-row-place
bounds-row-place c =
    place_within c.args.tree.now c.args.steps.now c.args.order.now c.args.row.now c.args.sink (get_or c.taps-tap-items.result.now c.loop-tap.tap-index no_tap).node c.place-place.result c.requires.made c.requires.row c.place-place.ensures

pub coefficient-requires-clause-shared : goal.coefficient-requires-clause-shared
coefficient-requires-clause-shared c =
    let t = c.args.tree.now in
    rw (common_at t c.args.steps.now c.args.order.now c.args.sink c.taps-tap-items.result.now c.args.row.now c.loop-tap.tap-index no_tap c.place-place.result c.requires.row c.taps-tap-items.ensures.value c.loop-tap-test.true c.requires.reached c.place-place.ensures)
    (shared_fits t c.args.steps.now c.requires.walk.grown c.taps-tap-items.ensures.sound c.requires.walk.few c.args.sink _)

pub loop-tap-preserved : goal.loop-tap-preserved
loop-tap-preserved c =
    let t = c.args.tree.now in
    let sound = c.taps-tap-items.ensures.sound in
    let e = c.taps-tap-items.ensures.value in
    let lt = c.loop-tap-test.true in
    let value = get_or c.args.row.now c.place-place.result 0 in
    let common = common_at t c.args.steps.now c.args.order.now c.args.sink c.taps-tap-items.result.now c.args.row.now c.loop-tap.tap-index no_tap c.place-place.result c.requires.row e lt c.requires.reached c.place-place.ensures in
    map_turn (λ (tap : Tap). pos (coefficient_of t (path_of c.args.steps.now) c.args.sink tap)) c.taps-tap-items.result.now t.taps c.loop-tap.tap-index no_tap _ _ _ e lt c.loop-tap.invariant c.in_ok-push.ensures.items
    (stored (value * unsigned_abs (get_or c.taps-tap-items.result.now c.loop-tap.tap-index no_tap).cap) c.coefficient.result
    (c.coefficient.ensures ∙ ap (λ z. pos (value * unsigned_abs z)) (cap_stored t c.taps-tap-items.result.now c.loop-tap.tap-index no_tap sound e lt))
    (cap_fits t c.taps-tap-items.result.now c.loop-tap.tap-index no_tap value sound e lt (rw common (shared_fits t c.args.steps.now c.requires.walk.grown sound c.requires.walk.few c.args.sink _)))
    ∙ ap (λ n. pos (n * unsigned_abs (get_or c.taps-tap-items.result.now c.loop-tap.tap-index no_tap).cap)) common)

pub overflow_cast-base : goal.overflow_cast-base
overflow_cast-base c =
    let most = base_fits c.args.tree.now c.args.steps.now c.requires.walk.grown c.taps-tap-items.ensures.sound c.requires.walk.few c.args.sink in
    let is = c.requires.base in
    omega (arith, ints, most, is)

pub new-requires : goal.new-requires
new-requires c =
    let t = c.args.tree.now in
    let sound = c.taps-tap-items.ensures.sound in
    let f = λ (tap : Tap). pos (coefficient_of t (path_of c.args.steps.now) c.args.sink tap) in
    let past : length t.taps ≤ c.loop-tap.tap-index = rw (← c.taps-tap-items.ensures.value) c.loop-tap-test.false in
    let coefs : c.loop-tap.coefs.items ≡ map f t.taps = c.loop-tap.invariant ∙ ap (map f) (take_all c.loop-tap.tap-index t.taps past) in
    let most = base_fits t c.args.steps.now c.requires.walk.grown sound c.requires.walk.few c.args.sink in
    let is = c.requires.base in
    let base : to_z w128 c.args.base ≡ pos (base_of t (path_of c.args.steps.now) c.args.sink) = omega (arith, ints, most, is) in
    rw (base, coefs) (sink_sums_fit t c.args.steps.now c.requires.walk.grown sound c.requires.walk.few c.args.sink)

pub loop-tap-init : goal.loop-tap-init
loop-tap-init c = c.in_ok-coefs.ensures.items

pub bounds-tap-items-tap-index : goal.bounds-tap-items-tap-index
bounds-tap-items-tap-index c = c.loop-tap-test.true

pub coefficient-requires-clause-least : goal.coefficient-requires-clause-least
coefficient-requires-clause-least c =
    let t = c.args.tree.now in
    let e = c.taps-tap-items.ensures.value in
    let sound = c.taps-tap-items.ensures.sound in
    let fine = sound.taps c.loop-tap.tap-index no_tap (rw (← e) c.loop-tap-test.true) in
    rw (cap_stored t c.taps-tap-items.result.now c.loop-tap.tap-index no_tap sound e c.loop-tap-test.true, e) fine.least

pub coefficient-requires-clause-most : goal.coefficient-requires-clause-most
coefficient-requires-clause-most c =
    let t = c.args.tree.now in
    let e = c.taps-tap-items.ensures.value in
    let sound = c.taps-tap-items.ensures.sound in
    let fine = sound.taps c.loop-tap.tap-index no_tap (rw (← e) c.loop-tap-test.true) in
    rw (cap_stored t c.taps-tap-items.result.now c.loop-tap.tap-index no_tap sound e c.loop-tap-test.true, e) fine.most

pub returns : goal.returns
returns c =
    let t = c.args.tree.now in
    let f = λ (tap : Tap). pos (coefficient_of t (path_of c.args.steps.now) c.args.sink tap) in
    let past : length t.taps ≤ c.loop-tap.tap-index = rw (← c.taps-tap-items.ensures.value) c.loop-tap-test.false in
    let coefs : c.loop-tap.coefs.items ≡ map f t.taps = c.loop-tap.invariant ∙ ap (map f) (take_all c.loop-tap.tap-index t.taps past) in
    let most = base_fits t c.args.steps.now c.requires.walk.grown c.taps-tap-items.ensures.sound c.requires.walk.few c.args.sink in
    let is = c.requires.base in
    let base : to_z w128 c.args.base ≡ pos (base_of t (path_of c.args.steps.now) c.args.sink) = omega (arith, ints, most, is) in
    c.new.ensures ∙ rw (base, coefs) refl
