use Rattle.std.proofs.Common.{◌+◌, []}
use Rattle.chaos_core.specs.Tasks.{publishing}
use Rattle.chaos_core.specs.Steps.{FitsPublishing}
use Rattle.chaos_core.proofs.Stages.{can_publish, next_fits}
use Rattle.chaos_core.proofs.Moves.{publish_fits}
use Rattle.chaos_core.proofs.Several.{publish_more, publish_none}
use Rattle.chaos_core.proofs.run.publish_two.Goals as goal

pub publish-requires-clause-value : goal.publish-requires-clause-value
publish-requires-clause-value g c = can_publish _ c.args.net c.args.pair.now c.args.place _ c.requires.fits c.number_in.ensures

pub publish-requires-2-clause-value : goal.publish-requires-2-clause-value
publish-requires-2-clause-value g c =
    let k = g.B.Board.knows c.args.board.now in
    let l = g.B.Board.knows c.publish.new.board in
    let fits : FitsPublishing l c.args.net c.args.pair.now (c.args.place + 1) = publish_fits k l [] c.args.net c.args.pair.now c.args.place _ c.requires.fits c.publish.ensures.publishes c.publish.ensures.seen c.requires.two in
    can_publish l c.args.net c.args.pair.now (c.args.place + 1) _ fits c.number_in-2.ensures

pub returns-clause-fits : goal.returns-clause-fits
returns-clause-fits g c = λ d lists order.
    let k = g.B.Board.knows c.args.board.now in
    let l = g.B.Board.knows c.publish.new.board in
    let m = g.B.Board.knows c.publish-2.new.board in
    let fits : FitsPublishing l c.args.net c.args.pair.now (c.args.place + 1) = publish_fits k l [] c.args.net c.args.pair.now c.args.place _ c.requires.fits c.publish.ensures.publishes c.publish.ensures.seen c.requires.two in
    next_fits l m d lists order c.args.net c.args.pair.now (c.args.place + 1) _ 0 fits c.publish-2.ensures.publishes c.publish-2.ensures.seen

pub returns-clause-steps : goal.returns-clause-steps
returns-clause-steps g c = λ d lists order.
    let k = g.B.Board.knows c.args.board.now in
    let l = g.B.Board.knows c.publish.new.board in
    let m = g.B.Board.knows c.publish-2.new.board in
    let net = c.args.net in
    let pair = c.args.pair.now in
    let place = c.args.place in
    let fits : FitsPublishing l net pair (place + 1) = publish_fits k l [] net pair place _ c.requires.fits c.publish.ensures.publishes c.publish.ensures.seen c.requires.two in
    let one = publish_more d lists order 0 k k l (publishing net pair place) net pair place _ c.requires.fits c.number_in.ensures c.publish.ensures.publishes (publish_none d lists order k net place pair c.requires.fits.more) in
    publish_more d lists order 1 k l m (publishing net pair place) net pair (place + 1) _ fits c.number_in-2.ensures c.publish-2.ensures.publishes one
