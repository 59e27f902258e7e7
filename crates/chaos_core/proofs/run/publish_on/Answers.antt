use Rattle.std.proofs.Common.{ℕ, suc, refl, sym, subst, []}
use Rattle.chaos_core.specs.Tasks.{publishing, idle}
use Rattle.chaos_core.specs.Steps.{AreSteps}
use Rattle.chaos_core.proofs.Several.{two_on}
use Rattle.chaos_core.proofs.run.publish_on.Goals as goal

pub publish_two-requires-then-from-eq0-clause-fits : goal.publish_two-requires-then-from-eq0-clause-fits
publish_two-requires-then-from-eq0-clause-fits g c = c.publish_two.ensures.fits (g.B.Board.knows c.args.board.now).setting.design [] []

pub publish_two-requires-then-from-eq0-2-clause-fits : goal.publish_two-requires-then-from-eq0-2-clause-fits
publish_two-requires-then-from-eq0-2-clause-fits g c = c.publish_two-then-from-eq0.ensures.fits (g.B.Board.knows c.args.board.now).setting.design [] []

pub publish_two-requires-then-from-eq0-3-clause-fits : goal.publish_two-requires-then-from-eq0-3-clause-fits
publish_two-requires-then-from-eq0-3-clause-fits g c = c.publish_two-then-from-eq0-2.ensures.fits (g.B.Board.knows c.args.board.now).setting.design [] []

pub returns-then-from-eq0-clause-steps : goal.returns-then-from-eq0-clause-steps
returns-then-from-eq0-clause-steps g c = λ d lists order.
    let k = g.B.Board.knows c.args.board.now in
    let l = g.B.Board.knows c.publish_two.new.board in
    let m = g.B.Board.knows c.publish_two-then-from-eq0.new.board in
    let n = g.B.Board.knows c.publish_two-then-from-eq0-2.new.board in
    let p = g.B.Board.knows c.publish_two-then-from-eq0-3.new.board in
    let at = publishing c.args.net c.args.pair in
    let four : AreSteps d lists order 4 k (at 0) m (at 4) = two_on d lists order 2 k l m (at 0) (at 2) (at 4) (c.publish_two.ensures.steps d lists order) (c.publish_two-then-from-eq0.ensures.steps d lists order) in
    let six : AreSteps d lists order 6 k (at 0) n (at 6) = two_on d lists order 4 k m n (at 0) (at 4) (at 6) four (c.publish_two-then-from-eq0-2.ensures.steps d lists order) in
    let eight : AreSteps d lists order 8 k (at 0) p idle = two_on d lists order 6 k n p (at 0) (at 6) idle six (c.publish_two-then-from-eq0-3.ensures.steps d lists order) in
    let P : ℕ → Type 0 = λ from. (more : ℕ) × AreSteps d lists order (suc more) k (at from) p idle in
    subst P (sym c.if-from-eq0.true) (7, eight)

pub returns-else-from-eq0-clause-steps : goal.returns-else-from-eq0-clause-steps
returns-else-from-eq0-clause-steps g c = λ d lists order.
    (0, (g.B.Board.knows c.args.board.now, publishing c.args.net c.args.pair c.args.from, c.publish_step.result, (refl, refl), c.requires.fits, c.publish_step.ensures.step d lists order))
