use Rattle.std.proofs.Common.{length-set}
use Rattle.chaos_core.proofs.Picks.{may_draw}
use Rattle.chaos_core.proofs.Workers.{one_setting, one_state, one_late, one_fits, picked_here}
use Rattle.chaos_core.proofs.round.pick.Goals as goal

pub worker_step-requires-clause-late : goal.worker_step-requires-clause-late
worker_step-requires-clause-late c = λ e. may_draw c.args.board.now c.args.workers.now c.next_open-place.result c.index-workers-place.result c.next_open-place.ensures.inside c.requires.late e

pub returns-clause-setting : goal.returns-clause-setting
returns-clause-setting c =
    let order = c.requires.lists.ordered.0 in
    one_setting c.args.design.now c.args.lists.now order c.args.board.now c.worker_step.new.board c.args.workers.now c.next_open-place.result c.index-workers-place.result c.worker_step.new.worker c.worker_step.result
    c.requires.design c.next_open-place.ensures.inside (c.worker_step.ensures.step order c.requires.lists.ordered.1)

pub returns-clause-pick : goal.returns-clause-pick
returns-clause-pick c = λ order o.
    let one = one_state c.args.design.now c.args.lists.now order c.args.board.now c.worker_step.new.board c.args.workers.now c.next_open-place.result c.index-workers-place.result c.worker_step.new.worker c.worker_step.result
    c.requires.design c.next_open-place.ensures.inside (c.worker_step.ensures.step order o) in
    record {
      pick = c.next_open-place.result;
      picked = picked_here c.args.workers.now c.draw-number.result _ c.next_open-place.result c.draw-number.ensures.value c.next_open-place.ensures.picked;
      source = c.draw-number.ensures.state;
      state = one;
    }

pub returns-clause-fits : goal.returns-clause-fits
returns-clause-fits c =
    let order = c.requires.lists.ordered.0 in
    one_fits c.args.design.now c.args.lists.now order c.args.board.now c.worker_step.new.board c.args.workers.now c.next_open-place.result c.index-workers-place.result c.worker_step.new.worker c.worker_step.result
    c.requires.design c.next_open-place.ensures.inside (c.worker_step.ensures.step order c.requires.lists.ordered.1) c.requires.lists c.requires.lists.ordered.1 c.words.ensures.kept c.requires.fits c.worker_step.ensures.room c.worker_step.ensures.places

pub returns-clause-late : goal.returns-clause-late
returns-clause-late c =
    let order = c.requires.lists.ordered.0 in
    one_late c.args.design.now c.args.lists.now order c.args.board.now c.worker_step.new.board c.args.workers.now c.next_open-place.result c.index-workers-place.result c.worker_step.new.worker c.worker_step.result
    c.requires.design c.next_open-place.ensures.inside (c.worker_step.ensures.step order c.requires.lists.ordered.1) c.requires.late

pub next_open-place-requires-clause-few : goal.next_open-place-requires-clause-few
next_open-place-requires-clause-few c = c.requires.few

pub next_open-place-requires-clause-open : goal.next_open-place-requires-clause-open
next_open-place-requires-clause-open c = c.requires.open

pub next_open-place-requires-clause-number : goal.next_open-place-requires-clause-number
next_open-place-requires-clause-number c = c.draw-number.ensures.below

pub worker_step-requires-clause-design : goal.worker_step-requires-clause-design
worker_step-requires-clause-design c = c.requires.design

pub worker_step-requires-clause-direction : goal.worker_step-requires-clause-direction
worker_step-requires-clause-direction c = c.requires.direction

pub worker_step-requires-clause-lists : goal.worker_step-requires-clause-lists
worker_step-requires-clause-lists c = c.requires.lists

pub worker_step-requires-clause-fits : goal.worker_step-requires-clause-fits
worker_step-requires-clause-fits c = c.requires.fits c.next_open-place.result c.index-workers-place.result c.next_open-place.ensures.inside

pub returns-clause-count : goal.returns-clause-count
returns-clause-count c = length-set c.args.workers.now c.next_open-place.result c.worker_step.new.worker
