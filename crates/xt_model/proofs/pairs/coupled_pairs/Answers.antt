use Rattle.std.proofs.Common.{◌≡◌, Some, refl, arith}
use Rattle.std.specs.List.{slice_get}
use Rattle.std.proofs.lemmas.List.Filters.{dedup_is}
use Rattle.std.proofs.lemmas.Option.{slice_get_read}
use Rattle.xt_model.proofs.PairLaws.{pairs_none, pairs_more, pairs_are, pairs_few}
use Rattle.xt_model.proofs.pairs.coupled_pairs.Goals as goal

pub loop-own-init : goal.loop-own-init
loop-own-init c = rw c.new-pairs.ensures.items (pairs_none c.args.nets.now)

pub loop-own-preserved : goal.loop-own-preserved
loop-own-preserved c =
    let net = c.index-nets-own.result in
    let there : slice_get c.args.nets.now c.loop-own.own ≡ Some net = slice_get_read _ _ _ _ refl c.loop-own-test.true c.index-nets-own.is in
    let same : c.as_slice.result.now ≡ net.couplings = c.as_slice.ensures in
    pairs_more _ _ _ _ _ c.requires.couplings there (rw same at (c.in_ok-push_pairs.ensures)) c.loop-own.invariant

pub returns : goal.returns
returns c = record {
  pairs = rw (dedup_is _ _ _ c.dedup.ensures.filtered) (pairs_are _ _ _ _ c.loop-own-test.false c.loop-own.invariant c.sort_unstable.ensures.permutation c.sort_unstable.ensures.sorted);
  most = omega (arith, pairs_few _ _ _ c.loop-own-test.false c.loop-own.invariant, c.dedup.ensures.bound, c.sort_unstable.ensures.len, c.dedup.new.self.ok.0, c.loop-own.pairs.ok.0);
}
