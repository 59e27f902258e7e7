use Rattle.std.proofs.Common.{◌∙◌, ap, sym, subst, length, arith}
use Rattle.net_eval.specs.ReadLists.{reads_of}
use Rattle.chaos_core.specs.Tasks.{places_of, room_of, task_of}
use Rattle.chaos_core.specs.Steps.{Fits, IsFitting}
use Rattle.chaos_core.proofs.Listing.{rows_back}
use Rattle.chaos_core.proofs.Moves.{load_inside}
use Rattle.chaos_core.proofs.Places.{ids_count}
use Rattle.chaos_core.proofs.Stages.{load_word, loads_there, places_stay, room_stays}
use Rattle.chaos_core.proofs.LoadStep.{load_few, load_fits, load_steps, load_whole}
use Rattle.chaos_core.proofs.steps.load_step.Goals as goal

pub load-number-requires : goal.load-number-requires
load-number-requires g c =
    let k = g.B.Board.knows c.args.board.now in
    let fits = subst (Fits k c.args.lists.now) (loads_there c.worker.inside.stage c.worker.inside.loaded.items c.args.net.0 _ (ap task_of c.worker.view_is) c.requires.loading) c.requires.fits.task in
    let is = load_word c.args.lists.now c.args.net.0 _ _ _ _ c.of-reads.ensures c.as_slice-place.ensures.value fits.more in
    record { word = load_inside k k c.args.lists.now c.args.net.0 _ _ 0 (rw c.requires.design c.requires.lists) fits is }

pub push_reserved-requires : goal.push_reserved-requires
push_reserved-requires g c =
    let k = g.B.Board.knows c.args.board.now in
    let fits = subst (Fits k c.args.lists.now) (loads_there c.worker.inside.stage c.worker.inside.loaded.items c.args.net.0 _ (ap task_of c.worker.view_is) c.requires.loading) c.requires.fits.task in
    let own = subst (IsFitting k c.args.lists.now) (sym c.worker.view_is) c.requires.fits in
    let room = own.room c.args.net.0 in
    let more = fits.more in
    let long = c.worker.inside.loaded.ok.0 in
    omega (arith, room, more, long)

pub stage_with-worker-inside-requires-clause-few : goal.stage_with-worker-inside-requires-clause-few
stage_with-worker-inside-requires-clause-few g c =
    let k = g.B.Board.knows c.args.board.now in
    let fits = subst (Fits k c.args.lists.now) (loads_there c.worker.inside.stage c.worker.inside.loaded.items c.args.net.0 _ (ap task_of c.worker.view_is) c.requires.loading) c.requires.fits.task in
    let is = load_word c.args.lists.now c.args.net.0 _ _ _ (record { 0 = 0 }) c.of-reads.ensures c.as_slice-place.ensures.value fits.more in
    load_few k (g.B.Board.knows c.load-number.new.self) c.args.lists.now c.args.net.0 _ _ c.load-number.result c.args.design.now _ _ c.requires.design c.requires.lists fits is c.of-reads.ensures
    (c.as_slice.ensures.value ∙ c.push_reserved.ensures.items)

pub stage_with-worker-inside-requires-clause-whole : goal.stage_with-worker-inside-requires-clause-whole
stage_with-worker-inside-requires-clause-whole g c =
    let k = g.B.Board.knows c.args.board.now in
    let fits = subst (Fits k c.args.lists.now) (loads_there c.worker.inside.stage c.worker.inside.loaded.items c.args.net.0 _ (ap task_of c.worker.view_is) c.requires.loading) c.requires.fits.task in
    let is = load_word c.args.lists.now c.args.net.0 _ _ _ _ c.of-reads.ensures c.as_slice-place.ensures.value fits.more in
    load_whole k (g.B.Board.knows c.load-number.new.self) c.args.lists.now c.args.net.0 _ _ c.load-number.result c.args.design.now _ _ c.requires.design c.requires.lists fits is c.of-reads.ensures
    (c.as_slice.ensures.value ∙ c.push_reserved.ensures.items) c.load-number.ensures.loads c.load-number.ensures.seen

pub returns-clause-fits : goal.returns-clause-fits
returns-clause-fits g c =
    let k = g.B.Board.knows c.args.board.now in
    let fits = subst (Fits k c.args.lists.now) (loads_there c.worker.inside.stage c.worker.inside.loaded.items c.args.net.0 _ (ap task_of c.worker.view_is) c.requires.loading) c.requires.fits.task in
    let is = load_word c.args.lists.now c.args.net.0 _ _ _ _ c.of-reads.ensures c.as_slice-place.ensures.value fits.more in
    let own = subst (IsFitting k c.args.lists.now) (sym c.worker.view_is) c.requires.fits in
    record {
      room = room_stays c.args.lists.now _ _ c.push_reserved.ensures.capacity own.room;
      places = places_stay (length c.args.lists.now) c.worker.inside.places.len c.worker.inside.places.items c.stage_with-worker-inside.new.places c.worker.inside.places.ok.0
          (c.stage_with-worker-inside.ensures.count ∙ ap length c.as_mut_slice.ensures.value) own.places;
      task = load_fits k (g.B.Board.knows c.load-number.new.self) c.args.lists.now c.args.net.0 _ _ c.load-number.result c.args.design.now _ _ _ _ c.requires.design c.requires.lists fits is c.of-reads.ensures
          c.as_slice.ensures.value c.push_reserved.ensures.items c.load-number.ensures.loads c.load-number.ensures.seen c.stage_with-worker-inside.ensures.range c.stage_with-worker-inside.ensures.task;
    }

pub returns-clause-step : goal.returns-clause-step
returns-clause-step g c = λ order.
    let k = g.B.Board.knows c.args.board.now in
    let at = loads_there c.worker.inside.stage c.worker.inside.loaded.items c.args.net.0 _ (ap task_of c.worker.view_is) c.requires.loading in
    let fits = subst (Fits k c.args.lists.now) at c.requires.fits.task in
    let is = load_word c.args.lists.now c.args.net.0 _ _ _ _ c.of-reads.ensures c.as_slice-place.ensures.value fits.more in
    rw at (load_steps k (g.B.Board.knows c.load-number.new.self) c.args.lists.now c.args.net.0 _ _ c.load-number.result c.args.design.now _ _ _ _ c.requires.design c.requires.lists fits is c.of-reads.ensures
    c.as_slice.ensures.value c.push_reserved.ensures.items c.load-number.ensures.loads c.stage_with-worker-inside.ensures.task order)

pub bounds-reads-place : goal.bounds-reads-place
bounds-reads-place g c =
    let k = g.B.Board.knows c.args.board.now in
    let fits = subst (Fits k c.args.lists.now) (loads_there c.worker.inside.stage c.worker.inside.loaded.items c.args.net.0 _ (ap task_of c.worker.view_is) c.requires.loading) c.requires.fits.task in
    let more = fits.more in
    let long = ap length c.as_slice-place.ensures.value in
    let reads = ap length c.of-reads.ensures in
    let size = ids_count (reads_of c.args.lists.now c.args.net.0) in
    omega (arith, more, long, reads, size)

pub stage_with-worker-inside-requires-clause-places : goal.stage_with-worker-inside-requires-clause-places
stage_with-worker-inside-requires-clause-places g c =
    let few = c.requires.fits.places in
    let own = ap places_of c.worker.view_is in
    let same = ap length c.as_mut_slice.ensures.value in
    let count = c.requires.lists.count in
    omega (arith, few, own, same, count)

pub returns-clause-places : goal.returns-clause-places
returns-clause-places g c =
    let own = c.worker.inside.places in
    let same = c.stage_with-worker-inside.ensures.count ∙ ap length c.as_mut_slice.ensures.value in
    ap length (rows_back own.len own.items c.stage_with-worker-inside.new.places own.ok.0 same) ∙ (same ∙ ap places_of c.worker.view_is)

pub returns-clause-room : goal.returns-clause-room
returns-clause-room g c = c.push_reserved.ensures.capacity ∙ ap room_of c.worker.view_is
