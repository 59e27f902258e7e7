use Rattle.miller_bits.proofs.Sums.{IsCapSoFar}
use Rattle.miller_bits.proofs.load.cap_sums.Given as goal

abbrev pub invariant-loop-index : goal.invariant-loop-index
invariant-loop-index g l = record {
  a_least : IsCapSoFar l.a.least l.coupling-items l.index l.a_least;
  a_greatest : IsCapSoFar l.a.greatest l.coupling-items l.index l.a_greatest;
  b_least : IsCapSoFar l.b.least l.coupling-items l.index l.b_least;
  b_greatest : IsCapSoFar l.b.greatest l.coupling-items l.index l.b_greatest;
}
