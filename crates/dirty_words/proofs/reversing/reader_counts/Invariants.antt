use Rattle.std.proofs.Common.{◌≡◌, length}
use Rattle.dirty_words.proofs.reversing.reader_counts.Given as goal

abbrev pub invariant-loop-number : goal.invariant-loop-number
invariant-loop-number l = record { count : length l.counts.items ≡ length l.lists }
