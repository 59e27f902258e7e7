use Rattle.std.proofs.Common.{◌%◌, refl, sym, subst}
use Rattle.xt_model.specs.declared.direction.Direction.{Direction}
use Rattle.xt_meaning.specs.Words.{MovesDown, MovesUp}
use Rattle.dirty_run.proofs.Visiting.{lowered_word, raised_word}
use Rattle.dirty_run.proofs.visit.publish.Goals as goal

pub returns-then-moves_down-clause-published : goal.returns-then-moves_down-clause-published
returns-then-moves_down-clause-published c = λ f e.
    let u = c.args.pass.now.view in
    let down = subst (λ (way : Direction). MovesDown way (c.args.word % 2)) (sym c.requires.way) (c.if-moves_down.ensures.down refl) in
    lowered_word u c.lower.new.pass.view f c.args.word c.args.value c.lower.result down (c.lower.ensures.published f e)

pub returns-clause-published : goal.returns-clause-published
returns-clause-published c = λ f e.
    let u = c.args.pass.now.view in
    let up = subst (λ (way : Direction). MovesUp way (c.args.word % 2)) (sym c.requires.way) (c.if-moves_down.ensures.up refl) in
    raised_word u c.raise.new.pass.view f c.args.word c.args.value c.raise.result up (c.raise.ensures.published f e)
