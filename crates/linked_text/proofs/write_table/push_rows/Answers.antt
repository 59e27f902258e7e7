use Rattle.std.proofs.Common.{◌≡◌, ◌+◌, ◌-◌, suc, arith}
use Rattle.linked_text.proofs.Pieces.{rows_left, rows_turn}
use Rattle.linked_text.proofs.write_table.push_rows.Goals as goal

pub loop-preserved : goal.loop-preserved
loop-preserved c =
    let more : c.args.count - c.loop.counter ≡ suc (c.args.count - (c.loop.counter + 1)) = omega (arith, c.loop-test.true) in (
      rows_left (c.args.count - c.loop.counter) (c.args.count - (c.loop.counter + 1)) c.args.columns _ _ more c.loop.invariant.0 c.split_at.ensures.back,
      rows_turn (c.args.count - c.loop.counter) (c.args.count - (c.loop.counter + 1)) c.args.columns _ _ _ _ _ _ more c.split_at.ensures.front c.split_at.ensures.back c.in_ok-push_numbers.ensures c.loop.invariant.1,
    )
