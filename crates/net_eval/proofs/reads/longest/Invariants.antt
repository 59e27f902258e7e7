use Rattle.std.proofs.Common.{◌≡◌, ℕ, length, get_or, []}
use Rattle.net_eval.proofs.Looks.{AreAtMost}
use Rattle.net_eval.proofs.reads.longest.Given as goal

abbrev pub invariant-loop-list : goal.invariant-loop-list
invariant-loop-list l = record {
  most : AreAtMost l.lists l.list-index l.longest;
  one : (net : ℕ) × (length (get_or l.lists net []) ≡ l.longest);
}
