use Rattle.std.proofs.Common.{arith, ap, length}
use Rattle.chaos_run.proofs.workers.Workers.new.Goals as goal

pub returns-clause-idle : goal.returns-clause-idle
returns-clause-idle c =
    let count = c.loop-number.invariant.count in
    let past = c.loop-number-test.false in
    let end = c.loop-number.auto._number-end in
    let none = ap length c.in_ok-seated.ensures.items in
    let room = c.loop-number.invariant.room in
    let capacity = c.in_ok-seated.ensures.capacity in
    record {
      roomy = record {
        all = omega (arith, count, end, none, room);
        passes = omega (arith, count, end, none, capacity);
        rooms = c.loop-number.invariant.rooms;
      };
      none = c.in_ok-seated.ensures.items;
    }

pub returns-clause-count : goal.returns-clause-count
returns-clause-count c =
    let count = c.loop-number.invariant.count in
    let past = c.loop-number-test.false in
    let end = c.loop-number.auto._number-end in
    omega (arith, count, past, end)
