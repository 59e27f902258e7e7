use Rattle.std.proofs.Common.{suc, ◌∙◌, refl, ap, sym, subst}
use Rattle.chaos_core.specs.declared.setting.Setting.{Setting}
use Rattle.chaos_core.specs.Tasks.{room_of, task_of}
use Rattle.chaos_core.proofs.Places.{no_lie}
use Rattle.chaos_core.proofs.Running.{Running, ran, runs_from}
use Rattle.chaos_core.proofs.Several.{run_over, some_nearer, steps_on}
use Rattle.chaos_core.proofs.run.run_by.Goals as goal

pub steps-init : goal.steps-init
steps-init g c =
    let k = g.B.Board.knows c.args.board.now in
    record {
      running = λ order o. subst (Running c.args.lists.now order k k) (sym c.requires.idle) (runs_from c.args.lists.now order k c.requires.fresh c.requires.late);
      steps = λ order o. (0, (refl, refl));
      fits = c.requires.fits;
      room = refl;
      places = refl;
    }

pub advance-requires-clause-design : goal.advance-requires-clause-design
advance-requires-clause-design g c = ap (λ (a : Setting). a.design) (c.steps.invariant.running c.requires.lists.ordered.0 c.requires.lists.ordered.1).setting ∙ c.requires.design

pub advance-requires-clause-direction : goal.advance-requires-clause-direction
advance-requires-clause-direction g c = ap (λ (a : Setting). a.way) (c.steps.invariant.running c.requires.lists.ordered.0 c.requires.lists.ordered.1).setting ∙ c.requires.direction

pub advance-requires-clause-late : goal.advance-requires-clause-late
advance-requires-clause-late g c = λ e. (c.steps.invariant.running c.requires.lists.ordered.0 c.requires.lists.ordered.1).late (λ h. no_lie (c.steps-test.ensures.1 h))

pub steps-smaller : goal.steps-smaller
steps-smaller g c =
    let order = c.requires.lists.ordered.0 in
    let o = c.requires.lists.ordered.1 in
    let s = c.advance.ensures.steps order o in
    let less = some_nearer c.args.lists.now c.args.design.now order (g.B.Board.knows c.args.board.now) c.requires.design c.requires.lists.sound c.requires.lists o s.0 (g.B.Board.knows c.steps.board)
    (g.B.Board.knows c.advance.new.board) (task_of c.steps.worker) (task_of c.advance.new.worker) (room_of c.steps.worker) c.steps.invariant.fits.room (λ h. no_lie (c.steps-test.ensures.1 h)) s.1
    (c.steps.invariant.running order o) in
    rw c.advance.ensures.room less

pub steps-preserved : goal.steps-preserved
steps-preserved g c = record {
  running = λ order o.
      let s = c.advance.ensures.steps order o in
      run_over c.args.lists.now c.args.design.now order (g.B.Board.knows c.args.board.now) c.requires.design c.requires.lists.sound c.requires.lists o (suc s.0) (g.B.Board.knows c.steps.board)
      (g.B.Board.knows c.advance.new.board) (task_of c.steps.worker) (task_of c.advance.new.worker) s.1 (c.steps.invariant.running order o);
  steps = λ order o.
      let before = c.steps.invariant.steps order o in
      let s = c.advance.ensures.steps order o in
      steps_on c.args.design.now c.args.lists.now order before.0 (suc s.0) (g.B.Board.knows c.args.board.now) (g.B.Board.knows c.steps.board) (g.B.Board.knows c.advance.new.board) (task_of c.args.worker.now)
      (task_of c.steps.worker) (task_of c.advance.new.worker) before.1 s.1;
  fits = c.advance.ensures.fits;
  room = c.advance.ensures.room ∙ c.steps.invariant.room;
  places = c.advance.ensures.places ∙ c.steps.invariant.places;
}

pub returns-clause-ran : goal.returns-clause-ran
returns-clause-ran g c = λ order o. ran c.args.lists.now order (g.B.Board.knows c.args.board.now) (g.B.Board.knows c.steps.board) (task_of c.steps.worker) (c.steps-test.ensures.0 refl) (c.steps.invariant.running order o)

pub returns-clause-steps : goal.returns-clause-steps
returns-clause-steps g c = c.steps.invariant.steps
