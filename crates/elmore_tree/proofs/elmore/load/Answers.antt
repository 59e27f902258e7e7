use Rattle.std.proofs.Common.{◌≡◌, ◌<◌, ◌≤◌, ◌∙◌, ap, sym, length, get_or, pos, w64, SFits, to_z-of_z, rules, arith}
use Rattle.std.specs.Int.RustNames.{unsigned_abs}
use Rattle.std.proofs.lemmas.Int.{ints}
use Rattle.std.proofs.lemmas.List.{take_all}
use Rattle.std.proofs.lemmas.List.Sums.{sum_by_more, sum_by_more_le}
use Rattle.elmore_tree.specs.Trees.{ground_sum}
use Rattle.elmore_tree.proofs.FormLaws.{load_fits}
use Rattle.elmore_tree.proofs.elmore.load.Goals as goal

pub bounds-ground-items-ground-index : goal.bounds-ground-items-ground-index
bounds-ground-items-ground-index c = c.loop-ground-test.true

pub overflow_add-load : goal.overflow_add-load
overflow_add-load c =
    let items = c.ground-ground-items.result.now in
    let i = c.loop-ground.ground-index in
    let fits : SFits w64 (get_or items i (pos 0)) = search rules in
    let same = c.ground-ground-items.ensures.value in
    let below : i < length c.args.tree.now.ground = rw (← same) c.loop-ground-test.true in
    let one : c.unsigned_abs-load.result ≡ unsigned_abs (get_or c.args.tree.now.ground i (pos 0)) = c.unsigned_abs-load.ensures.value ∙ (ap unsigned_abs (to_z-of_z fits) ∙ ap (λ xs. unsigned_abs (get_or xs i (pos 0))) same) in
    let so_far = c.loop-ground.invariant in
    let most = sum_by_more_le unsigned_abs c.args.tree.now.ground i (pos 0) below in
    let whole = load_fits c.args.tree.now c.ground-ground-items.ensures.sound in
    omega (arith, one, so_far, most, whole)

pub loop-ground-preserved : goal.loop-ground-preserved
loop-ground-preserved c =
    let items = c.ground-ground-items.result.now in
    let i = c.loop-ground.ground-index in
    let fits : SFits w64 (get_or items i (pos 0)) = search rules in
    let same = c.ground-ground-items.ensures.value in
    let below : i < length c.args.tree.now.ground = rw (← same) c.loop-ground-test.true in
    let one : c.unsigned_abs-load.result ≡ unsigned_abs (get_or c.args.tree.now.ground i (pos 0)) = c.unsigned_abs-load.ensures.value ∙ (ap unsigned_abs (to_z-of_z fits) ∙ ap (λ xs. unsigned_abs (get_or xs i (pos 0))) same) in
    rw (c.loop-ground.invariant, one) (sym (sum_by_more unsigned_abs c.args.tree.now.ground i (pos 0) below))

pub overflow_cast-result : goal.overflow_cast-result
overflow_cast-result c =
    let ground = c.args.tree.now.ground in
    let past : length ground ≤ c.loop-ground.ground-index = rw (← c.ground-ground-items.ensures.value) c.loop-ground-test.false in
    let is : c.loop-ground.load ≡ ground_sum ground = c.loop-ground.invariant ∙ ap ground_sum (take_all c.loop-ground.ground-index ground past) in
    let whole = load_fits c.args.tree.now c.ground-ground-items.ensures.sound in
    omega (arith, ints, is, whole)

pub returns : goal.returns
returns c =
    let ground = c.args.tree.now.ground in
    let past : length ground ≤ c.loop-ground.ground-index = rw (← c.ground-ground-items.ensures.value) c.loop-ground-test.false in
    let is : c.loop-ground.load ≡ ground_sum ground = c.loop-ground.invariant ∙ ap ground_sum (take_all c.loop-ground.ground-index ground past) in
    let whole = load_fits c.args.tree.now c.ground-ground-items.ensures.sound in
    omega (arith, ints, is, whole)
