use Rattle.std.proofs.Common.{ℕ}
use Rattle.std.specs.List.{Contains}
use Rattle.xt_meaning.specs.Reads.{IsAround}
use Rattle.net_eval.specs.ReadLists.{HasLooked}
use Rattle.net_eval.proofs.reads.look_at.Given as goal

abbrev pub invariant-loop-arc : goal.invariant-loop-arc
invariant-loop-arc l = record {
  looked : HasLooked l.design l.own l.net l.numbers.items l.arc-index;
  last : (m : ℕ) → IsAround l.design.nets l.last m → Contains l.numbers.items m;
}
