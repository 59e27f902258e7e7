use Rattle.net_eval.proofs.Looks.{AreListsBefore}
use Rattle.net_eval.proofs.reads.read_lists.Given as goal

abbrev pub invariant-loop-own : goal.invariant-loop-own
invariant-loop-own l = AreListsBefore l.design l.lists.items l.own
