use Rattle.std.proofs.Common.{length}
use Rattle.reader_tests.proofs.liberty.push_timing.Given as goal

abbrev pub decreases-loop-name : goal.decreases-loop-name
decreases-loop-name l = length l.names
