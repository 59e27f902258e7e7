use Rattle.std.proofs.Common.{◌<◌, ◌∙◌, refl, length, take, get_or, arith}
use Rattle.std.proofs.lemmas.List.{length-set}
use Rattle.chaos_core.specs.Tasks.{task_of}
use Rattle.chaos_core.specs.Machine.{state_of}
use Rattle.chaos_core.proofs.Picks.{may_draw}
use Rattle.chaos_core.proofs.Turns.{good_from, rooms_set, reached_by, turn_fits, turn_state, turn_late, turn_setting}
use Rattle.chaos_core.proofs.schedule.run_schedule.Goals as goal

pub worker_step-requires-clause-fits : goal.worker_step-requires-clause-fits
worker_step-requires-clause-fits c =
    let b = c.args.board.now in
    let ls = c.args.lists.now in
    let order = c.requires.lists.ordered.0 in
    let o = c.requires.lists.ordered.1 in
    let inv = c.loop-pick.invariant in
    let picks = c.args.picks.now in
    let pick = get_or picks c.loop-pick.pick-index 0 in
    let good = good_from b ls c.args.workers.now c.words.ensures.kept c.requires.fits in
    let inside : pick < length c.loop-pick.workers = let h = c.requires.picks c.loop-pick.pick-index 0 c.loop-pick-test.true in let n = inv.count in omega (arith, h, n) in
    turn_fits b.setting c.args.design.now ls order (state_of b c.args.workers.now) c.requires.design c.requires.lists o good c.loop-pick.board c.loop-pick.workers (take c.loop-pick.pick-index picks) inv.setting
    (inv.state order o) inv.rooms pick c.index-workers-pick.result inside

pub worker_step-requires-clause-late : goal.worker_step-requires-clause-late
worker_step-requires-clause-late c =
    let inv = c.loop-pick.invariant in
    let pick = get_or c.args.picks.now c.loop-pick.pick-index 0 in
    let inside : pick < length c.loop-pick.workers = let h = c.requires.picks c.loop-pick.pick-index 0 c.loop-pick-test.true in let n = inv.count in omega (arith, h, n) in
    λ e. may_draw c.loop-pick.board c.loop-pick.workers pick c.index-workers-pick.result inside inv.late e

pub loop-pick-preserved : goal.loop-pick-preserved
loop-pick-preserved c =
    let b = c.args.board.now in
    let d = c.args.design.now in
    let ls = c.args.lists.now in
    let order = c.requires.lists.ordered.0 in
    let o = c.requires.lists.ordered.1 in
    let inv = c.loop-pick.invariant in
    let picks = c.args.picks.now in
    let i = c.loop-pick.pick-index in
    let pick = get_or picks i 0 in
    let s = state_of b c.args.workers.now in
    let now = c.loop-pick.board in
    let next = c.worker_step.new.board in
    let ws = c.loop-pick.workers in
    let y = c.index-workers-pick.result in
    let w = c.worker_step.new.worker in
    let good = good_from b ls c.args.workers.now c.words.ensures.kept c.requires.fits in
    let inside : pick < length ws = let h = c.requires.picks i 0 c.loop-pick-test.true in let n = inv.count in omega (arith, h, n) in
    record {
      count = length-set ws pick w ∙ inv.count;
      setting = turn_setting b.setting d ls order s c.requires.design c.requires.lists o good now next (task_of (get_or ws pick y)) (task_of w) c.worker_step.result inv.setting (c.worker_step.ensures.step order o);
      state = λ ord oo.
          turn_state b.setting d ls ord s c.requires.design c.requires.lists oo good now next ws _ picks i 0 y w c.worker_step.result inv.setting c.loop-pick-test.true inside refl (c.worker_step.ensures.step ord oo)
          (inv.state ord oo);
      rooms = rooms_set ls ws pick y w inside c.worker_step.ensures.room c.worker_step.ensures.places inv.rooms;
      late = turn_late b.setting d ls order s c.requires.design c.requires.lists o good now next ws _ pick y w c.worker_step.result inv.setting inside refl (c.worker_step.ensures.step order o) inv.late;
    }

pub returns-clause-kept : goal.returns-clause-kept
returns-clause-kept c = λ order n o.
    let b = c.args.board.now in
    let good = good_from b c.args.lists.now c.args.workers.now c.words.ensures.kept c.requires.fits in
    reached_by b.setting c.args.design.now c.args.lists.now order (state_of b c.args.workers.now) c.requires.design c.requires.lists o good (take n c.args.picks.now)

pub returns-clause-fits : goal.returns-clause-fits
returns-clause-fits c =
    let b = c.args.board.now in
    let ls = c.args.lists.now in
    let order = c.requires.lists.ordered.0 in
    let o = c.requires.lists.ordered.1 in
    let inv = c.loop-pick.invariant in
    let good = good_from b ls c.args.workers.now c.words.ensures.kept c.requires.fits in
    turn_fits b.setting c.args.design.now ls order (state_of b c.args.workers.now) c.requires.design c.requires.lists o good c.loop-pick.board c.loop-pick.workers (take c.loop-pick.pick-index c.args.picks.now) inv.setting
    (inv.state order o) inv.rooms
