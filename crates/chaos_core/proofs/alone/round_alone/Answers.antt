use Rattle.std.proofs.Common.{◌≡◌, ◌<◌, refl, ◌∙◌, sym, ap, length, arith}
use Rattle.std.specs.Prelude.{slice_index}
use Rattle.xt_model.specs.Parts.{Parts}
use Rattle.xt_meaning.proofs.Numbers.{numbers_count}
use Rattle.chaos_core.specs.declared.setting.Setting.{Setting}
use Rattle.chaos_core.specs.Rounds.{pause_at}
use Rattle.chaos_core.proofs.Places.{order_there}
use Rattle.chaos_core.proofs.Settling.{fits_under}
use Rattle.chaos_core.proofs.Starting.{kept_fits}
use Rattle.chaos_core.proofs.Stages.{one_order}
use Rattle.chaos_core.proofs.OnlyWorker.{turns_more, turns_done, own_turn}
use Rattle.chaos_core.proofs.alone.round_alone.Goals as goal

pub turn-requires-clause-design : goal.turn-requires-clause-design
turn-requires-clause-design c = ap (λ (a : Setting). a.design) c.loop-place.invariant.setting ∙ c.requires.design

pub turn-requires-clause-direction : goal.turn-requires-clause-direction
turn-requires-clause-direction c = ap (λ (a : Setting). a.way) c.loop-place.invariant.setting ∙ c.requires.direction

pub turn-requires-clause-net : goal.turn-requires-clause-net
turn-requires-clause-net c =
    let o = c.order-order.ensures.value in
    order_there c.args.design.now c.order-order.result.now c.loop-place.place o (let n = o.2.count in let h = c.loop-place-test.true in omega (arith, n, h))

pub loop-place-init : goal.loop-place-init
loop-place-init c = record { setting = refl; numbers = c.requires.numbers; marks = c.requires.marks; path = λ order o. (0, refl) }

pub loop-place-preserved : goal.loop-place-preserved
loop-place-preserved c =
    let inv = c.loop-place.invariant in
    let d = c.args.design.now in
    let mine = c.order-order.result.now in
    record {
      setting = c.turn.ensures.setting ∙ inv.setting;
      numbers = c.turn.ensures.numbers;
      marks = c.turn.ensures.marks;
      path = λ order o.
          let m = c.order-order.ensures.value in
          let same = one_order d.nets mine order m o in
          let path = inv.path order o in
          let there : c.loop-place.place < length d.nets = let n = m.2.count in let h = c.loop-place-test.true in omega (arith, n, h) in
          let at : slice_index order c.loop-place.place ≡ slice_index mine c.loop-place.place = ap (λ xs. slice_index xs c.loop-place.place) (sym same) in
          let turn = own_turn _ _ c.args.lists.now order c.loop-place.place _ _ inv.setting (c.turn.ensures.turn order c.loop-place.place there at) in
          turns_more c.args.board.now.setting c.args.lists.now order path.0 (pause_at c.loop-place.source.state c.loop-place.board) (pause_at c.turn.new.source.state c.turn.new.board) _ c.loop-place.place path.1 turn;
    }

pub returns-clause-round : goal.returns-clause-round
returns-clause-round c = λ order o.
    let inv = c.loop-place.invariant in
    let d = c.args.design.now in
    let m = c.order-order.ensures.value in
    let path = inv.path order o in
    turns_done c.args.board.now.setting c.args.lists.now order path.0 (pause_at c.loop-place.source.state c.loop-place.board) (pause_at c.pick_only.new.source.state c.loop-place.board) c.loop-place.place
    (let n = m.2.count in let h = c.loop-place-test.false in let own = ap (λ (x : Parts). length x.nets) c.requires.design in omega (arith, n, h, own)) c.pick_only.ensures refl (pause_at c.args.source.now.state c.args.board.now) path.1

pub prove-unreachable-requires : goal.prove-unreachable-requires
prove-unreachable-requires c =
    let n = numbers_count c.loop-place.windows in
    let e = ap length c.loop-place.invariant.numbers in
    let w = ap length c.words.ensures.value in
    let p = ap length c.pairs.ensures.value in
    omega (arith, n, e, w, p, c.if-prove.true)

pub returns-clause-fits : goal.returns-clause-fits
returns-clause-fits c =
    let inv = c.loop-place.invariant in
    let later = c.loop-place.board.setting in
    fits_under c.args.board.now.setting later c.args.design.now c.args.direction c.loop-place.windows inv.setting c.requires.design c.requires.direction
    (kept_fits later c.loop-place.board.words c.loop-place.windows c.words.ensures.kept.words inv.numbers c.pairs.ensures.in_range)
