use Rattle.std.proofs.Common.{◌∙◌, sym, ap, subst, arith}
use Rattle.chaos_core.specs.Tasks.{loaded_of, loading, task_at, task_of}
use Rattle.chaos_core.specs.Steps.{Fits}
use Rattle.chaos_core.proofs.Stages.{room_stays}
use Rattle.chaos_core.proofs.steps.worker_step.Goals as goal

pub returns-in-Loading-clause-step : goal.returns-in-Loading-clause-step
returns-in-Loading-clause-step g c = λ order o. c.load_step.ensures.step order

pub returns-in-Publishing-clause-fits : goal.returns-in-Publishing-clause-fits
returns-in-Publishing-clause-fits g c = record {
  room = room_stays c.args.lists.now _ _ c.publish_step.ensures.room c.requires.fits.room;
  places = let same = c.publish_step.ensures.places in let few = c.requires.fits.places in omega (arith, same, few);
  task = c.publish_step.ensures.fits c.args.lists.now;
}

pub returns-in-Publishing-clause-step : goal.returns-in-Publishing-clause-step
returns-in-Publishing-clause-step g c = λ order o.
    let at = sym (ap task_of c.worker.view_is) ∙ ap (λ s. task_at s c.worker.inside.loaded.items) c.in-Publishing.is in
    rw at (c.publish_step.ensures.step c.args.design.now c.args.lists.now order)

pub draw_step-requires-clause-design : goal.draw_step-requires-clause-design
draw_step-requires-clause-design g c = c.requires.design

pub draw_step-requires-clause-lists : goal.draw_step-requires-clause-lists
draw_step-requires-clause-lists g c = c.requires.lists

pub draw_step-requires-clause-fits : goal.draw_step-requires-clause-fits
draw_step-requires-clause-fits g c = c.requires.fits

pub draw_step-requires-clause-idle : goal.draw_step-requires-clause-idle
draw_step-requires-clause-idle g c = sym (ap task_of c.worker.view_is) ∙ ap (λ s. task_at s c.worker.inside.loaded.items) c.in-Idle.is

pub draw_step-requires-clause-late : goal.draw_step-requires-clause-late
draw_step-requires-clause-late g c =
    let at = sym (ap task_of c.worker.view_is) ∙ ap (λ s. task_at s c.worker.inside.loaded.items) c.in-Idle.is in
    c.requires.late at

pub load_step-requires-clause-design : goal.load_step-requires-clause-design
load_step-requires-clause-design g c = c.requires.design

pub load_step-requires-clause-lists : goal.load_step-requires-clause-lists
load_step-requires-clause-lists g c = c.requires.lists

pub load_step-requires-clause-fits : goal.load_step-requires-clause-fits
load_step-requires-clause-fits g c = c.requires.fits

pub load_step-requires-clause-loading : goal.load_step-requires-clause-loading
load_step-requires-clause-loading g c =
    let at = sym (ap task_of c.worker.view_is) ∙ ap (λ s. task_at s c.worker.inside.loaded.items) c.in-Loading.is in
    at ∙ ap (λ t. loading c.in-Loading.net (loaded_of t)) (sym at)

pub publish_step-requires-clause-way : goal.publish_step-requires-clause-way
publish_step-requires-clause-way g c = c.requires.direction

pub publish_step-requires-clause-fits : goal.publish_step-requires-clause-fits
publish_step-requires-clause-fits g c =
    let at = sym (ap task_of c.worker.view_is) ∙ ap (λ s. task_at s c.worker.inside.loaded.items) c.in-Publishing.is in
    subst (Fits (g.B.Board.knows c.args.board.now) c.args.lists.now) at c.requires.fits.task

pub returns-in-Finished-clause-fits : goal.returns-in-Finished-clause-fits
returns-in-Finished-clause-fits g c = c.requires.fits

pub returns-in-Idle-clause-fits : goal.returns-in-Idle-clause-fits
returns-in-Idle-clause-fits g c = c.draw_step.ensures.fits

pub returns-in-Idle-clause-places : goal.returns-in-Idle-clause-places
returns-in-Idle-clause-places g c = c.draw_step.ensures.places

pub returns-in-Idle-clause-room : goal.returns-in-Idle-clause-room
returns-in-Idle-clause-room g c = c.draw_step.ensures.room

pub returns-in-Idle-clause-step : goal.returns-in-Idle-clause-step
returns-in-Idle-clause-step g c = λ order o.
    let at = sym (ap task_of c.worker.view_is) ∙ ap (λ s. task_at s c.worker.inside.loaded.items) c.in-Idle.is in
    rw at (c.draw_step.ensures.step order o)

pub returns-in-Loading-clause-fits : goal.returns-in-Loading-clause-fits
returns-in-Loading-clause-fits g c = c.load_step.ensures.fits

pub returns-in-Loading-clause-places : goal.returns-in-Loading-clause-places
returns-in-Loading-clause-places g c = c.load_step.ensures.places

pub returns-in-Loading-clause-room : goal.returns-in-Loading-clause-room
returns-in-Loading-clause-room g c = c.load_step.ensures.room

pub returns-in-Publishing-clause-places : goal.returns-in-Publishing-clause-places
returns-in-Publishing-clause-places g c = c.publish_step.ensures.places

pub returns-in-Publishing-clause-room : goal.returns-in-Publishing-clause-room
returns-in-Publishing-clause-room g c = c.publish_step.ensures.room
