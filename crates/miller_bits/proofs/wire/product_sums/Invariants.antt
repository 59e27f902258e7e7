use Rattle.miller_bits.proofs.Sums.{IsSumSoFar}
use Rattle.miller_bits.proofs.wire.product_sums.Given as goal

abbrev pub invariant-loop-index : goal.invariant-loop-index
invariant-loop-index g l = record {
  a_least : IsSumSoFar l.a.least l.sink.coefs l.sink.base l.index l.a_least;
  a_greatest : IsSumSoFar l.a.greatest l.sink.coefs l.sink.base l.index l.a_greatest;
  b_least : IsSumSoFar l.b.least l.sink.coefs l.sink.base l.index l.b_least;
  b_greatest : IsSumSoFar l.b.greatest l.sink.coefs l.sink.base l.index l.b_greatest;
}
