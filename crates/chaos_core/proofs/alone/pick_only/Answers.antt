use Rattle.chaos_core.proofs.OnlyWorker.{after_more}
use Rattle.chaos_core.proofs.alone.pick_only.Goals as goal

pub loop-pick-preserved : goal.loop-pick-preserved
loop-pick-preserved c = after_more c.args.source.now.state c.loop-pick._pick _ _ c.loop-pick.invariant c.draw.ensures.state
