use Rattle.std.proofs.Common.{◌∙◌, ap, sym, subst, length, arith}
use Rattle.chaos_core.specs.Steps.{IsFitting}
use Rattle.chaos_core.specs.Tasks.{places_of, room_of}
use Rattle.chaos_core.proofs.Listing.{rows_back}
use Rattle.chaos_core.proofs.Stages.{drawn_there, drawn_steps, places_stay, room_stays}
use Rattle.chaos_core.proofs.DrawStep.{draw_whole, draw_fits}
use Rattle.chaos_core.proofs.steps.draw_step.Goals as goal

pub of-requires : goal.of-requires
of-requires g c = drawn_there c.args.design.now c.args.lists.now c.order.result.now c.draw-number.result c.requires.lists c.order.ensures.value (rw c.nets.ensures.value at c.if-number-nets.false)

pub stage_with-worker-inside-requires-clause-whole : goal.stage_with-worker-inside-requires-clause-whole
stage_with-worker-inside-requires-clause-whole g c =
    draw_whole (g.B.Board.knows c.args.board.now) (g.B.Board.knows c.draw-number.new.self) c.args.lists.now c.draw-number.result c.args.design.now c.order.result.now _ _ c.requires.design c.requires.lists
    c.order.ensures.value (rw c.nets.ensures.value at c.if-number-nets.false) c.of.ensures (c.as_slice.ensures.value ∙ c.clear.ensures.items) c.draw-number.ensures.draws c.draw-number.ensures.seen

pub returns-clause-fits : goal.returns-clause-fits
returns-clause-fits g c =
    let own = subst (IsFitting (g.B.Board.knows c.args.board.now) c.args.lists.now) (sym c.worker.view_is) c.requires.fits in
    record {
      room = room_stays c.args.lists.now _ _ c.clear.ensures.capacity own.room;
      places = places_stay (length c.args.lists.now) c.worker.inside.places.len c.worker.inside.places.items c.stage_with-worker-inside.new.places c.worker.inside.places.ok.0
          (c.stage_with-worker-inside.ensures.count ∙ ap length c.as_mut_slice.ensures.value) own.places;
      task = draw_fits (g.B.Board.knows c.args.board.now) (g.B.Board.knows c.draw-number.new.self) c.args.lists.now c.draw-number.result c.args.design.now c.order.result.now _ _ _ _ c.requires.design c.requires.lists
          c.order.ensures.value (rw c.nets.ensures.value at c.if-number-nets.false) c.of.ensures c.as_slice.ensures.value c.clear.ensures.items c.draw-number.ensures.draws c.draw-number.ensures.seen
          c.stage_with-worker-inside.ensures.range c.stage_with-worker-inside.ensures.task;
    }

pub returns-clause-step : goal.returns-clause-step
returns-clause-step g c = λ order o.
    drawn_steps c.args.design.now c.args.lists.now order c.order.result.now (g.B.Board.knows c.args.board.now) (g.B.Board.knows c.draw-number.new.self) c.draw-number.result _ _ _ _ o c.order.ensures.value
    (rw c.nets.ensures.value at c.if-number-nets.false) c.of.ensures (c.as_slice.ensures.value ∙ c.clear.ensures.items) c.clear.ensures.items c.draw-number.ensures.draws c.stage_with-worker-inside.ensures.task

pub stage_with-worker-inside-requires-clause-few : goal.stage_with-worker-inside-requires-clause-few
stage_with-worker-inside-requires-clause-few g c =
    let none = ap length (c.as_slice.ensures.value ∙ c.clear.ensures.items) in
    omega (arith, none)

pub stage_with-worker-inside-requires-clause-places : goal.stage_with-worker-inside-requires-clause-places
stage_with-worker-inside-requires-clause-places g c =
    let few = c.requires.fits.places in
    let own = ap places_of c.worker.view_is in
    let same = ap length c.as_mut_slice.ensures.value in
    let count = c.requires.lists.count in
    omega (arith, few, own, same, count)

pub returns-clause-places : goal.returns-clause-places
returns-clause-places g c =
    let own = c.worker.inside.places in
    let same = c.stage_with-worker-inside.ensures.count ∙ ap length c.as_mut_slice.ensures.value in
    ap length (rows_back own.len own.items c.stage_with-worker-inside.new.places own.ok.0 same) ∙ (same ∙ ap places_of c.worker.view_is)

pub returns-clause-room : goal.returns-clause-room
returns-clause-room g c = c.clear.ensures.capacity ∙ ap room_of c.worker.view_is

pub returns-then-number-nets-clause-places : goal.returns-then-number-nets-clause-places
returns-then-number-nets-clause-places g c = ap places_of c.worker.view_is

pub returns-then-number-nets-clause-room : goal.returns-then-number-nets-clause-room
returns-then-number-nets-clause-room g c = ap room_of c.worker.view_is
