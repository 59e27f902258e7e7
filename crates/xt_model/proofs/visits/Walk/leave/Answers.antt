use Rattle.std.proofs.Common.{◌≡◌, ◌∙◌, Some, refl, sym, ap}
use Rattle.std.specs.List.{slice_get}
use Rattle.std.proofs.lemmas.Option.{slice_get_read}
use Rattle.xt_model.specs.declared.net.Net.{Net}
use Rattle.xt_model.proofs.WalkSteps.{walk_leaves, leaving_keeps, no_level_past, last_is_there}
use Rattle.xt_model.proofs.visits.Walk.leave.Goals as goal

pub returns-clause-walk : goal.returns-clause-walk
returns-clause-walk c =
    let r = c.requires in
    let net = c.index-nets-net.result in
    let there : slice_get c.args.nets.now c.args.net ≡ Some net = slice_get_read _ _ _ _ refl (last_is_there _ _ _ _ _ r.walk _ r.last r.some) c.index-nets-net.is in
    let same : c.as_slice.result.now ≡ net.arcs = c.as_slice.ensures ∙ ap (λ (m : Net). m.arcs) (sym c.index-nets-net.is) in
    walk_leaves _ _ _ _ _ r.walk c.args.net c.level_above-level.result net c.pop.new.self.items (rw (← c.args.self.now.path.ok.0) c.pop.ensures.rest) r.some r.last there
    (rw there at r.known)
    (rw (← same, ← c.deref.ensures.value) c.level_above-level.ensures)

pub returns-clause-keeps : goal.returns-clause-keeps
returns-clause-keeps c = leaving_keeps _ _ _ _ _ c.requires.walk _ _ c.requires.last c.requires.some

pub level_above-level-requires-clause-inputs : goal.level_above-level-requires-clause-inputs
level_above-level-requires-clause-inputs c =
    let r = c.requires in
    let net = c.index-nets-net.result in
    let there : slice_get c.args.nets.now c.args.net ≡ Some net = slice_get_read _ _ _ _ refl (last_is_there _ _ _ _ _ r.walk _ r.last r.some) c.index-nets-net.is in
    let same : c.as_slice.result.now ≡ net.arcs = c.as_slice.ensures ∙ ap (λ (m : Net). m.arcs) (sym c.index-nets-net.is) in
    rw (same, c.deref.ensures.value, r.walk.levels_count) (r.inputs c.args.net net there)

pub level_above-level-requires-clause-most : goal.level_above-level-requires-clause-most
level_above-level-requires-clause-most c = rw c.deref.ensures.value (no_level_past _ _ _ _ _ c.requires.walk c.requires.few)
