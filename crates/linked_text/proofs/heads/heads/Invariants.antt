use Rattle.std.proofs.Common.{◌≡◌, []}
use Rattle.linked_text.specs.Fits.{AreFew}
use Rattle.linked_text.specs.Meaning.{heads_at, no_sums, with_front}
use Rattle.linked_text.proofs.heads.heads.Given as goal

abbrev pub invariant-loop-left : goal.invariant-loop-left
invariant-loop-left l = record {
  read : with_front l.heads.items (heads_at l.left l.names l.sums l.rest) ≡ heads_at l.count [] no_sums l.bytes;
  few : AreFew l.sums;
}

abbrev pub decreases-loop-left : goal.decreases-loop-left
decreases-loop-left l = l.left
