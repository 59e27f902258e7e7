use Rattle.std.proofs.Common.{◌≡◌, ◌<◌, ℕ, pos, length, subst, refl, arith}
use Rattle.std.specs.List.{slice_index_or}
use Rattle.std.proofs.lemmas.List.{get_or_read}
use Rattle.std.proofs.lemmas.Int.{ints}
use Rattle.link_wires.specs.Ground.{IsGathered}
use Rattle.link_wires.proofs.GroundLaws.{gathered_last, gathered_fits, gathered_natural, gathered_turn, charge_there}
use Rattle.link_wires.proofs.charges.grounds.Goals as goal

pub overflow_add-index_mut : goal.overflow_add-index_mut
overflow_add-index_mut c =
    let cs = c.args.charges.now in
    let i = c.loop-charge.charge-index in
    let charge = slice_index_or cs i (0, pos 0) in
    let ground = c.loop-charge.ground.items in
    let lt : i < length cs = omega (arith, c.loop-charge-test.true) in
    let fits = gathered_fits cs c.args.count i charge (0, pos 0) ground lt refl c.requires.within c.requires.natural c.loop-charge.invariant in
    let natural = gathered_natural cs c.args.count i charge (0, pos 0) ground lt refl c.requires.within c.requires.natural c.loop-charge.invariant in
    let there = charge_there cs c.args.count i charge (0, pos 0) ground lt refl c.requires.within c.requires.natural c.loop-charge.invariant in
    let read = get_or_read ground charge.0 c.index_mut.result.now there c.index_mut.ensures.value (pos 0) in
    omega (arith, ints, fits, natural, read, c.requires.most)

pub loop-charge-preserved : goal.loop-charge-preserved
loop-charge-preserved c =
    let cs = c.args.charges.now in
    let i = c.loop-charge.charge-index in
    let charge = slice_index_or cs i (0, pos 0) in
    let ground = c.loop-charge.ground.items in
    let lt : i < length cs = omega (arith, c.loop-charge-test.true) in
    let fits = gathered_fits cs c.args.count i charge (0, pos 0) ground lt refl c.requires.within c.requires.natural c.loop-charge.invariant in
    let natural = gathered_natural cs c.args.count i charge (0, pos 0) ground lt refl c.requires.within c.requires.natural c.loop-charge.invariant in
    let there = charge_there cs c.args.count i charge (0, pos 0) ground lt refl c.requires.within c.requires.natural c.loop-charge.invariant in
    let read = get_or_read ground charge.0 c.index_mut.result.now there c.index_mut.ensures.value (pos 0) in
    gathered_turn cs c.args.count i charge (0, pos 0) ground lt refl c.requires.within c.requires.natural c.loop-charge.invariant _
    (omega (arith, ints, fits, natural, read, c.requires.most))

pub returns : goal.returns
returns c =
    let all : c.loop-charge.charge-index ≡ length c.args.charges.now = omega (arith, c.loop-charge-test.false) in
    gathered_last c.args.charges.now c.args.count c.loop-charge.ground.items
    (subst (λ (i : ℕ). IsGathered c.args.charges.now c.args.count i c.loop-charge.ground.items) all c.loop-charge.invariant)
