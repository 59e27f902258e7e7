use Rattle.std.proofs.Common.{get_or, arith}
use Rattle.chaos_core.proofs.Turns.{room_kept}
use Rattle.chaos_core.proofs.Workers.{are_idle}
use Rattle.chaos_core.proofs.round.reset_all.Goals as goal

pub returns-clause-idle : goal.returns-clause-idle
returns-clause-idle c = are_idle c.loop-worker.worker-items _ c.loop-worker.worker-index c.loop-worker.invariant.count (omega (arith, c.loop-worker.invariant.count, c.loop-worker-test.false)) c.loop-worker.invariant.idle

pub returns-clause-rooms : goal.returns-clause-rooms
returns-clause-rooms c = λ lists rooms k x h.
    let inv = c.loop-worker.invariant in
    let before = c.args.workers.now in
    room_kept lists (get_or before k x) (get_or c.loop-worker.worker-items k x) (inv.rooms k x h) (inv.places k x h) (rooms k x (omega (arith, h, inv.count)))
