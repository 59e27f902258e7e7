use Rattle.std.proofs.Common.{◌≡◌, [], ◌∷◌, ◌++◌}
use Rattle.std.proofs.lemmas.Result.{err_from_is_err_and}
use Rattle.eco_warm.specs.Edits.{sink_left}
use Rattle.eco_warm.proofs.Made.{sinks_stop, sinks_turn, products_more}
use Rattle.eco_warm.proofs.net.sinks_left.Goals as goal

pub returns-in_err-sink_left-clause-impossible : goal.returns-in_err-sink_left-clause-impossible
returns-in_err-sink_left-clause-impossible c =
    let f = sink_left c.args.moving c.args.other.0 c.args.couplings.now in
    let p = err_from_is_err_and c.from_residual.result c.from_residual.ensures.1 in
    rw (p.1, p.2) (sinks_stop f c.args.sinks.now c.loop-sink.sink-index c.sink-item.result c.in_err-sink_left.field-0.0 c.loop-sink-test.true c.sink-item.is c.in_err-sink_left.ensures.impossible)

pub loop-sink-preserved : goal.loop-sink-preserved
loop-sink-preserved c =
    let f = sink_left c.args.moving c.args.other.0 c.args.couplings.now in
    let r = c.in_ok-sink_left.field-0 in
    let items : c.push.new.self.items ≡ (c.loop-sink.left.items ++ r ∷ []) = c.in_ok-push.ensures.items in
    record {
      done = sinks_turn f c.args.sinks.now c.loop-sink.left.items c.push.new.self.items c.loop-sink.sink-index c.sink-item.result r c.loop-sink-test.true c.sink-item.is c.loop-sink.invariant.done c.in_ok-sink_left.ensures.ok items;
      possible = products_more c.loop-sink.left.items c.push.new.self.items r items c.loop-sink.invariant.possible c.in_ok-sink_left.ensures.possible;
    }
