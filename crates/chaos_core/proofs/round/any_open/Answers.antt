use Rattle.std.proofs.Common.{arith}
use Rattle.chaos_core.proofs.Workers.{all_done_from}
use Rattle.chaos_core.proofs.round.any_open.Goals as goal

pub returns-clause-done : goal.returns-clause-done
returns-clause-done c = λ h. all_done_from c.args.workers.now (λ k x lt. c.loop-worker.invariant k x (omega (arith, lt, c.loop-worker-test.false)))
