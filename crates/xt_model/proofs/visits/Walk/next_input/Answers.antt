use Rattle.std.proofs.Common.{◌≡◌, ◌∙◌, ◌<◌, length, Some, refl, sym, ap, arith}
use Rattle.std.specs.List.{slice_get}
use Rattle.std.proofs.lemmas.Option.{slice_get_read}
use Rattle.xt_model.specs.declared.net.Net.{Net}
use Rattle.xt_model.proofs.LevelTurns.{known_whole, waits_for}
use Rattle.xt_model.proofs.WalkSteps.{walk_advances, last_is_there}
use Rattle.xt_model.proofs.visits.Walk.next_input.Goals as goal

pub returns-then-next-arcs-clause-walk : goal.returns-then-next-arcs-clause-walk
returns-then-next-arcs-clause-walk c =
    let r = c.requires in
    let net = c.index-nets-net.result in
    let there : slice_get c.args.nets.now c.args.net ≡ Some net = slice_get_read _ _ _ _ refl (last_is_there _ _ _ _ _ r.walk _ r.last r.some) c.index-nets-net.is in
    let same : c.as_slice-arcs.result.now ≡ net.arcs = c.as_slice-arcs.ensures ∙ ap (λ (m : Net). m.arcs) (sym c.index-nets-net.is) in
    let within = rw same at c.first_waiting-next.ensures.within in
    let before = rw (same, c.deref.ensures.value) at c.first_waiting-next.ensures.before in
    walk_advances _ _ _ _ _ r.walk _ _ _ r.last r.some there within before

pub returns-then-next-arcs-clause-next : goal.returns-then-next-arcs-clause-next
returns-then-next-arcs-clause-next c =
    let r = c.requires in
    let net = c.index-nets-net.result in
    let there : slice_get c.args.nets.now c.args.net ≡ Some net = slice_get_read _ _ _ _ refl (last_is_there _ _ _ _ _ r.walk _ r.last r.some) c.index-nets-net.is in
    let same : c.as_slice-arcs.result.now ≡ net.arcs = c.as_slice-arcs.ensures ∙ ap (λ (m : Net). m.arcs) (sym c.index-nets-net.is) in
    let lt = rw same at c.if-next-arcs.true in
    let waits = rw (same, c.deref.ensures.value) at (c.first_waiting-next.ensures.waits c.if-next-arcs.true) in
    let inside : c.args.net < length c.args.self.now.cursors.items = omega (arith, r.walk.cursors_count, last_is_there _ _ _ _ _ r.walk _ r.last r.some) in
    rw same (waits_for _ _ _ _ _ _ _ _ r.inputs there r.last inside lt waits)

pub returns-else-next-arcs-clause-walk : goal.returns-else-next-arcs-clause-walk
returns-else-next-arcs-clause-walk c =
    let r = c.requires in
    let net = c.index-nets-net.result in
    let there : slice_get c.args.nets.now c.args.net ≡ Some net = slice_get_read _ _ _ _ refl (last_is_there _ _ _ _ _ r.walk _ r.last r.some) c.index-nets-net.is in
    let same : c.as_slice-arcs.result.now ≡ net.arcs = c.as_slice-arcs.ensures ∙ ap (λ (m : Net). m.arcs) (sym c.index-nets-net.is) in
    let within = rw same at c.first_waiting-next.ensures.within in
    let before = rw (same, c.deref.ensures.value) at c.first_waiting-next.ensures.before in
    walk_advances _ _ _ _ _ r.walk _ _ _ r.last r.some there within before

pub returns-else-next-arcs-clause-next : goal.returns-else-next-arcs-clause-next
returns-else-next-arcs-clause-next c =
    let r = c.requires in
    let net = c.index-nets-net.result in
    let there : slice_get c.args.nets.now c.args.net ≡ Some net = slice_get_read _ _ _ _ refl (last_is_there _ _ _ _ _ r.walk _ r.last r.some) c.index-nets-net.is in
    let same : c.as_slice-arcs.result.now ≡ net.arcs = c.as_slice-arcs.ensures ∙ ap (λ (m : Net). m.arcs) (sym c.index-nets-net.is) in
    let past = rw same at c.if-next-arcs.false in
    let before = rw (same, c.deref.ensures.value) at c.first_waiting-next.ensures.before in
    rw there (known_whole _ _ _ past before)
