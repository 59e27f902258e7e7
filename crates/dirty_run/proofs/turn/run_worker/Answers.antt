use Rattle.std.proofs.Common.{◌≡◌, ◌+◌, ◌-◌, ◌<◌, ◌≤◌, sym, ap, subst, List, ℕ, length, arith}
use Rattle.std.specs.Prelude.{Some, None}
use Rattle.xt_model.specs.Parts.{Parts}
use Rattle.chaos_core.specs.Boards.{nets_of}
use Rattle.chaos_core.proofs.Running.{above}
use Rattle.window_words.specs.Views.{count_from}
use Rattle.dirty_run.specs.Turns.{HasDrawnNext}
use Rattle.dirty_run.proofs.Paying.{own_design}
use Rattle.dirty_run.proofs.Turned.{none_turned, turned_more, turned_last, takes_next, drew_below, drew_here, drew_net, free_after, above_after, late_after}
use Rattle.dirty_run.proofs.turn.run_worker.Goals as goal

pub places-init : goal.places-init
places-init g c =
    let v = c.args.pass.now.view in
    let few : List ℕ → Type 0 = λ xs. above xs ≤ length c.args.run.now.design.now.nets in
    let late : List ℕ → Type 0 = λ xs. 0 < 1 - count_from (nets_of v.base.setting) xs in
    record {
      own = c.requires.own;
      turned = λ order o. none_turned order v c.respects.ensures c.requires.fresh c.requires.none;
      free = c.requires.free;
      room = c.requires.room;
      few = subst few (sym c.requires.fresh) (omega arith);
      late = subst late (sym c.requires.fresh) (omega arith);
    }

pub visit-requires-clause-take : goal.visit-requires-clause-take
visit-requires-clause-take g c =
    let run = c.requires.run in
    let d = c.args.run.now.design.now in
    let v = c.args.pass.now.view in
    let w = c.places.pass.view in
    let w1 = c.next_net.new.pass.view in
    let next : HasDrawnNext d.nets w (Some c.in-Some.net) w1 = c.in-Some.ensures.drew in
    let own = own_design c.args.run.now.board.now.run v c.requires.own.run d c.args.run.now.lists.now run.design run.own run.whole in
    let order = run.whole.ordered.0 in
    let o = run.whole.ordered.1 in
    takes_next order v w w1 d c.in-Some.net (c.places.invariant.turned order o) o own c.requires.none c.places.invariant.free next

pub places-smaller : goal.places-smaller
places-smaller g c =
    let d = c.args.run.now.design.now in
    let w = c.places.pass.view in
    let w1 = c.next_net.new.pass.view in
    let next : HasDrawnNext d.nets w (Some c.in-Some.net) w1 = c.in-Some.ensures.drew in
    let far = above_after w w1 c.visit.new.pass.view next.number c.in-Some.net.0 next.drew c.visit.ensures.visited in
    let most = far.0 in
    let e = far.1 in
    let lt = next.place.0 in
    let less : length d.nets + 1 - above c.visit.new.pass.view.base.drawn < length d.nets + 1 - above w.base.drawn = omega (arith, most, e, lt) in
    less

pub places-preserved : goal.places-preserved
places-preserved g c =
    let run = c.requires.run in
    let d = c.args.run.now.design.now in
    let v = c.args.pass.now.view in
    let w = c.places.pass.view in
    let w1 = c.next_net.new.pass.view in
    let w2 = c.visit.new.pass.view in
    let net = c.in-Some.net in
    let inv = c.places.invariant in
    let next : HasDrawnNext d.nets w (Some net) w1 = c.in-Some.ensures.drew in
    let own = own_design c.args.run.now.board.now.run v c.requires.own.run d c.args.run.now.lists.now run.design run.own run.whole in
    let vis = c.visit.ensures.visited in
    let first = run.whole.ordered.0 in
    let o1 = run.whole.ordered.1 in
    let far = above_after w w1 w2 next.number net.0 next.drew vis in
    let e = far.1 in
    let lt = next.place.0 in
    record {
      own = c.visit.ensures.own;
      turned = λ order o.
          let t = inv.turned order o in
          turned_more order v w w1 w2 next.number net.0 t next.drew (drew_below order v w w1 d net t o own c.requires.none inv.free next) (drew_net order v w w1 d net t o own c.requires.none inv.free next) vis;
      free = free_after w w1 w2 next.number net.0 next.drew vis inv.free;
      room = c.visit.ensures.room;
      few = omega (arith, e, lt);
      late = late_after w w1 w2 next.number net.0 next.drew vis (drew_here first v w w1 d net (inv.turned first o1) o1 own c.requires.none inv.free next) inv.late;
    }

pub returns-clause-ran : goal.returns-clause-ran
returns-clause-ran g c = λ order o.
    let run = c.requires.run in
    let d = c.args.run.now.design.now in
    let v = c.args.pass.now.view in
    let w = c.places.pass.view in
    let w1 = c.next_net.new.pass.view in
    let next : HasDrawnNext d.nets w None w1 = c.in_default.ensures.drew in
    let own = own_design c.args.run.now.board.now.run v c.requires.own.run d c.args.run.now.lists.now run.design run.own run.whole in
    let nets : nets_of v.base.setting ≡ length d.nets = ap (λ (x : Parts). length x.nets) own in
    let past = next.place in
    turned_last order v w w1 next.number (c.places.invariant.turned order o) next.drew (omega (arith, past, nets))
