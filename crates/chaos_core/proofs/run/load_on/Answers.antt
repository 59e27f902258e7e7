use Rattle.std.proofs.Common.{◌≡◌, ℕ, suc, ◌%◌, refl, ◌∙◌, sym, ap, subst, List, length}
use Rattle.chaos_core.specs.Tasks.{WorkerState, loaded_of, task_of}
use Rattle.chaos_core.specs.Steps.{AreSteps}
use Rattle.chaos_core.proofs.Stages.{loads_there}
use Rattle.chaos_core.proofs.run.load_on.Goals as goal

pub load_rest-requires-clause-whole : goal.load_rest-requires-clause-whole
load_rest-requires-clause-whole g c =
    let same : loaded_of (task_of c.args.worker.now) ≡ c.worker.inside.loaded.items =
    ap loaded_of (loads_there c.worker.inside.stage c.worker.inside.loaded.items c.args.net.0 _ (ap task_of c.worker.view_is) c.requires.loading) in
    ap (λ (w : WorkerState). length (loaded_of (task_of w)) % 8) c.read_ahead.ensures ∙ (ap (λ (xs : List ℕ). length xs % 8) (same ∙ sym c.as_slice.ensures.value) ∙ c.if-as_slice-eq0.true)

pub returns-then-as_slice-eq0-clause-steps : goal.returns-then-as_slice-eq0-clause-steps
returns-then-as_slice-eq0-clause-steps g c = λ order.
    let k = g.B.Board.knows c.args.board.now in
    let l = g.B.Board.knows c.load_rest.new.board in
    let P : WorkerState → Type 0 = λ w. (more : ℕ) × AreSteps c.args.design.now c.args.lists.now order (suc more) k (task_of w) l (task_of c.load_rest.new.worker) in
    subst P c.read_ahead.ensures (c.load_rest.ensures.steps order)

pub returns-else-as_slice-eq0-clause-steps : goal.returns-else-as_slice-eq0-clause-steps
returns-else-as_slice-eq0-clause-steps g c = λ order.
    (0, (g.B.Board.knows c.args.board.now, task_of c.args.worker.now, c.load_step.result, (refl, refl), c.requires.fits.task, c.load_step.ensures.step order))
