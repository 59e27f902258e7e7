use Rattle.std.proofs.Common.{◌≤◌, ◌∙◌, ap, length, map, get_or, pos, w64, SFits, to_z-of_z, rules}
use Rattle.std.specs.Int.RustNames.{unsigned_abs}
use Rattle.std.proofs.lemmas.List.{take_all}
use Rattle.elmore_tree.proofs.FormLaws.{map_turn}
use Rattle.elmore_tree.proofs.elmore.grounds.Goals as goal

pub loop-ground-init : goal.loop-ground-init
loop-ground-init c = c.in_ok-caps.ensures.items

pub bounds-ground-items-ground-index : goal.bounds-ground-items-ground-index
bounds-ground-items-ground-index c = c.loop-ground-test.true

pub loop-ground-preserved : goal.loop-ground-preserved
loop-ground-preserved c =
    let items = c.ground-ground-items.result.now in
    let i = c.loop-ground.ground-index in
    let fits : SFits w64 (get_or items i (pos 0)) = search rules in
    map_turn unsigned_abs items c.args.tree.now.ground i (pos 0) c.loop-ground.caps.items c.push.new.self.items c.unsigned_abs.result c.ground-ground-items.ensures.value c.loop-ground-test.true c.loop-ground.invariant c.in_ok-push.ensures.items
    (c.unsigned_abs.ensures.value ∙ ap unsigned_abs (to_z-of_z fits))

pub returns : goal.returns
returns c =
    let ground = c.args.tree.now.ground in
    let past : length ground ≤ c.loop-ground.ground-index = rw (← c.ground-ground-items.ensures.value) c.loop-ground-test.false in
    c.loop-ground.invariant ∙ ap (map unsigned_abs) (take_all c.loop-ground.ground-index ground past)
