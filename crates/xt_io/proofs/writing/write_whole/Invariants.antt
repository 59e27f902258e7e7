use Rattle.std.proofs.Common.{length, ◌-◌, ◌≡◌, ◌≤◌, take}
use Rattle.xt_io.specs.Outside.{appended}
use Rattle.xt_io.proofs.writing.write_whole.Given as goal

abbrev pub invariant-loop-at : goal.invariant-loop-at
invariant-loop-at g l = record {
  counts : g.S.Sink.faults l.sink ≡ g.S.Sink.faults l.fn.sink;
  within : l.at ≤ length l.bytes;
  written : g.S.Sink.written l.sink ≡ appended (g.S.Sink.written l.fn.sink) (take l.at l.bytes);
  untouched : l.at ≡ 0 → l.sink ≡ l.fn.sink;
}

-- proposed from the loop's first test
abbrev pub decreases-loop-at : goal.decreases-loop-at
decreases-loop-at g l = length l.bytes - l.at
