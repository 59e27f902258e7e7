use Rattle.std.proofs.lemmas.Result.{IfOk-weaker}
use Rattle.xtalk_top.specs.declared.runs.Turns.TheVariants.{InThreads}
use Rattle.xtalk_top.proofs.Ends.{ends}
use Rattle.xtalk_top.proofs.runs.run_in_threads.Goals as goal

pub returns-in-Some : goal.returns-in-Some
returns-in-Some g c =
    let r = c.settle_from_in.result in
    ends r _ _ InThreads _ c.settle_from_in.ensures.extreme (IfOk-weaker r _ _ (λ settled h _. h) c.settle_from_in.ensures.closed) c.settle_from_in.ensures.few

pub returns-in-None : goal.returns-in-None
returns-in-None g c =
    let r = c.settle_from.result in
    ends r _ _ InThreads _ c.settle_from.ensures.extreme (IfOk-weaker r _ _ (λ settled h _. h) c.settle_from.ensures.closed) c.settle_from.ensures.few
