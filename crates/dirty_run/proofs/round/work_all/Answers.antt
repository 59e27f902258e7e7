use Rattle.std.proofs.Common.{get_or, subst, rules}
use Rattle.window_words.proofs.Slices.{zip_each}
use Rattle.dirty_run.specs.declared.worker.SeatedWorker.{SeatedWorker}
use Rattle.dirty_run.specs.Rounds.{HasWorked}
use Rattle.dirty_run.proofs.round.work_all.Goals as goal

pub returns : goal.returns
returns g c =
    let R = HasWorked c.args.run.now.board.now c.args.run.now.design.now c.args.run.now.lists.now in
    let xs = c.args.seated.now in
    let ys = c.for_each_mut.new.s in
    zip_each R xs ys (search rules) (λ i d h.
    let at = (c.for_each_mut.ensures i d h).1 in
    subst (λ (y : SeatedWorker). R (get_or xs i d) y) at.left (subst (λ (x : SeatedWorker). R x at.after_call.now) at.argument_is at.call))
