use Rattle.chaos_core.proofs.Stages.{can_publish, published_fits, published_steps}
use Rattle.chaos_core.proofs.steps.publish_step.Goals as goal

pub publish-requires-clause-value : goal.publish-requires-clause-value
publish-requires-clause-value g c = can_publish (g.B.Board.knows c.args.board.now) c.args.net c.args.pair c.args.place _ c.requires.fits c.number_in.ensures

pub returns-clause-fits : goal.returns-clause-fits
returns-clause-fits g c = λ lists.
    published_fits (g.B.Board.knows c.args.board.now) (g.B.Board.knows c.publish.new.board) lists c.args.net c.args.pair c.args.place _ _ _ c.requires.fits c.publish.ensures.publishes c.publish.ensures.seen
    c.stage_after-worker-inside.ensures

pub returns-clause-step : goal.returns-clause-step
returns-clause-step g c = λ d lists order.
    published_steps d lists order (g.B.Board.knows c.args.board.now) (g.B.Board.knows c.publish.new.board) c.args.net c.args.pair c.args.place _ _ _ c.number_in.ensures
    c.publish.ensures.publishes c.stage_after-worker-inside.ensures
