use Rattle.std.proofs.Common.{◌≡◌, take}
use Rattle.net_eval.specs.ReadLists.{ids}
use Rattle.net_eval.proofs.reads.nets_of.Given as goal

abbrev pub invariant-loop-number : goal.invariant-loop-number
invariant-loop-number l = ids l.nets.items ≡ take l.number-index l.numbers
