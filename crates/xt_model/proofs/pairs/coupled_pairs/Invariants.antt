use Rattle.xt_model.proofs.PairLaws.{ArePairsBefore}
use Rattle.xt_model.proofs.pairs.coupled_pairs.Given as goal

abbrev pub invariant-loop-own : goal.invariant-loop-own
invariant-loop-own l = ArePairsBefore l.nets l.pairs.items l.own
