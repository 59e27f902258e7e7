use Rattle.std.proofs.Common.{◌≡◌, ℕ, ◌+◌, ◌-◌, ◌*◌, arith, subst}
use Rattle.report_text.specs.Pieces.{IsTallyAmong}
use Rattle.report_text.proofs.Widths.{sum_most, most_more, tally_none, tally_split}
use Rattle.report_text.proofs.tally.tally_of.Goals as goal

pub loop-net-init : goal.loop-net-init
loop-net-init c = record {
  is = tally_none c.args.design.now c.args.low.now c.args.high.now c.args.from c.none-tally.result c.none-tally.ensures.is;
  most = most_more 0 (2 * (c.args.from - c.args.from)) c.none-tally.result c.none-tally.ensures.most (omega arith);
}

pub plus-tally-requires-clause-most : goal.plus-tally-requires-clause-most
plus-tally-requires-clause-most c =
    let to = c.ranges.to in
    let net = c.loop-net-test.true in
    most_more _ _ c.loop-net.tally c.loop-net.invariant.most (omega (arith, to, net))

pub plus-tally-requires-clause-others : goal.plus-tally-requires-clause-others
plus-tally-requires-clause-others c = most_more 2 _ c.net_tally.result c.net_tally.ensures.most (omega arith)

pub loop-net-preserved : goal.loop-net-preserved
loop-net-preserved c =
    let net = c.loop-net.net in
    let from = c.args.from in
    let after = c.loop-net.auto.net in
    let before = c.loop-net-test.true in
    let end = c.requires.end in
    record {
      is = tally_split c.args.design.now c.args.low.now c.args.high.now from net (net + 1) c.loop-net.tally c.net_tally.result c.plus-tally.result
          after (omega arith) (omega (arith, before, end)) c.loop-net.invariant.is c.net_tally.ensures.is c.plus-tally.ensures;
      most = sum_most (2 * (net - from)) 2 (2 * ((net + 1) - from)) c.loop-net.tally c.net_tally.result c.plus-tally.result
          c.loop-net.invariant.most c.net_tally.ensures.most c.plus-tally.ensures (omega (arith, after));
    }

pub returns-clause-is : goal.returns-clause-is
returns-clause-is c =
    let order = c.requires.order in
    let low = c.loop-net-test.false in
    let high = c.loop-net.auto.net-end order in
    let end : c.loop-net.net ≡ c.args.to = omega (arith, low, high) in
    let P : ℕ → Type 0 = λ n. IsTallyAmong c.args.design.now c.args.low.now c.args.high.now c.args.from n c.loop-net.tally in
    subst P end c.loop-net.invariant.is

pub returns-clause-most : goal.returns-clause-most
returns-clause-most c =
    let high = c.loop-net.auto.net-end c.requires.order in
    most_more _ (2 * (c.args.to - c.args.from)) c.loop-net.tally c.loop-net.invariant.most (omega (arith, high))
