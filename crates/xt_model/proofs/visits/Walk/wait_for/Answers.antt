use Rattle.std.proofs.Common.{◌≡◌, ◌<◌, length, get_or, arith}
use Rattle.std.proofs.lemmas.List.{take_rest, get_or_read}
use Rattle.xt_model.proofs.WalkSteps.{walk_loops}
use Rattle.xt_model.proofs.visits.Walk.wait_for.Goals as goal

pub returns-then-place-gt0-clause-fault : goal.returns-then-place-gt0-clause-fault
returns-then-place-gt0-clause-fault c =
    let r = c.requires in
    let lt : c.args.input < length c.args.self.now.places.items = omega (arith, r.walk.places_count, r.waits.there) in
    let place : c.index-place.result.now ≡ get_or c.args.self.now.places.items c.args.input 0 = get_or_read _ _ _ lt c.index-place.ensures 0 in
    rw (c.in_ok-ids.ensures, take_rest, c.deref.ensures.value, place)
    (walk_loops _ _ _ _ _ r.walk c.args.input r.some r.waits.input r.waits.waits (omega arith))
