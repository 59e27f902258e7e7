use Rattle.std.proofs.Common.{ℕ, suc, refl, ◌∙◌, sym, ap, subst, arith}
use Rattle.chaos_core.specs.Tasks.{Task, loaded_of, loading, task_at, task_of}
use Rattle.chaos_core.specs.Steps.{AreSteps, Fits}
use Rattle.chaos_core.proofs.Stages.{room_stays}
use Rattle.chaos_core.proofs.run.advance.Goals as goal

pub returns-in-Publishing-clause-steps : goal.returns-in-Publishing-clause-steps
returns-in-Publishing-clause-steps g c = λ order o.
    let d = c.args.design.now in
    let lists = c.args.lists.now in
    let k = g.B.Board.knows c.args.board.now in
    let l = g.B.Board.knows c.publish_on.new.board in
    let at = sym (ap task_of c.worker.view_is) ∙ ap (λ s. task_at s c.worker.inside.loaded.items) c.in-Publishing.is in
    let Q : Task → Type 0 = λ t. (more : ℕ) × AreSteps d lists order (suc more) k t l (task_of c.publish_on.new.worker) in
    subst Q (sym at) (c.publish_on.ensures.steps d lists order)

pub returns-in-Publishing-clause-fits : goal.returns-in-Publishing-clause-fits
returns-in-Publishing-clause-fits g c = record {
  room = room_stays c.args.lists.now _ _ c.publish_on.ensures.room c.requires.fits.room;
  places = let p = c.requires.fits.places in let same = c.publish_on.ensures.places in omega (arith, p, same);
  task = c.publish_on.ensures.fits c.args.lists.now;
}

pub returns-in-Idle-clause-steps : goal.returns-in-Idle-clause-steps
returns-in-Idle-clause-steps g c = λ order o. (0, (g.B.Board.knows c.args.board.now, task_of c.args.worker.now, c.worker_step.result, (refl, refl), c.requires.fits.task, c.worker_step.ensures.step order o))

pub load_on-requires-clause-design : goal.load_on-requires-clause-design
load_on-requires-clause-design g c = c.requires.design

pub load_on-requires-clause-fits : goal.load_on-requires-clause-fits
load_on-requires-clause-fits g c = c.requires.fits

pub load_on-requires-clause-groups : goal.load_on-requires-clause-groups
load_on-requires-clause-groups g c = c.requires.groups

pub load_on-requires-clause-lists : goal.load_on-requires-clause-lists
load_on-requires-clause-lists g c = c.requires.lists

pub load_on-requires-clause-look : goal.load_on-requires-clause-look
load_on-requires-clause-look g c = c.requires.look

pub load_on-requires-clause-loading : goal.load_on-requires-clause-loading
load_on-requires-clause-loading g c =
    let at = sym (ap task_of c.worker.view_is) ∙ ap (λ s. task_at s c.worker.inside.loaded.items) c.in-Loading.is in
    at ∙ ap (λ t. loading c.in-Loading.net (loaded_of t)) (sym at)

pub publish_on-requires-clause-way : goal.publish_on-requires-clause-way
publish_on-requires-clause-way g c = c.requires.direction

pub publish_on-requires-clause-fits : goal.publish_on-requires-clause-fits
publish_on-requires-clause-fits g c =
    let at = sym (ap task_of c.worker.view_is) ∙ ap (λ s. task_at s c.worker.inside.loaded.items) c.in-Publishing.is in
    subst (Fits (g.B.Board.knows c.args.board.now) c.args.lists.now) at c.requires.fits.task

pub returns-in-Idle-clause-fits : goal.returns-in-Idle-clause-fits
returns-in-Idle-clause-fits g c = c.worker_step.ensures.fits

pub returns-in-Idle-clause-places : goal.returns-in-Idle-clause-places
returns-in-Idle-clause-places g c = c.worker_step.ensures.places

pub returns-in-Idle-clause-room : goal.returns-in-Idle-clause-room
returns-in-Idle-clause-room g c = c.worker_step.ensures.room

pub returns-in-Loading-clause-fits : goal.returns-in-Loading-clause-fits
returns-in-Loading-clause-fits g c = c.load_on.ensures.fits

pub returns-in-Loading-clause-places : goal.returns-in-Loading-clause-places
returns-in-Loading-clause-places g c = c.load_on.ensures.places

pub returns-in-Loading-clause-room : goal.returns-in-Loading-clause-room
returns-in-Loading-clause-room g c = c.load_on.ensures.room
