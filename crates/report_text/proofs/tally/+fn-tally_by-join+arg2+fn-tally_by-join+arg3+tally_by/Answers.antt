use Rattle.std.proofs.Common.{◌-◌, ◌*◌, arith}
use Rattle.report_text.proofs.Widths.{sum_most, most_more, tally_split}
use Rattle.report_text.proofs.tally.+fn-tally_by-join+arg2+fn-tally_by-join+arg3+tally_by.Goals as goal

pub plus-requires-clause-most : goal.plus-requires-clause-most
plus-requires-clause-most g t c =
    let high = c.share_end-middle.ensures.high in
    let to = c.ranges.to in
    most_more (2 * (c.share_end-middle.result - c.args.from)) _ c.join.result.0 c.join.ensures.first.1 (omega (arith, high, to))

pub plus-requires-clause-others : goal.plus-requires-clause-others
plus-requires-clause-others g t c =
    let to = c.ranges.to in
    most_more (2 * (c.args.to - c.share_end-middle.result)) _ c.join.result.1 c.join.ensures.second.1 (omega (arith, to))

pub returns-clause-is : goal.returns-clause-is
returns-clause-is g t c =
    tally_split c.args.design.now c.args.low.now c.args.high.now c.args.from c.share_end-middle.result c.args.to c.join.result.0 c.join.result.1 c.plus.result
    c.share_end-middle.ensures.low c.share_end-middle.ensures.high c.requires.end c.join.ensures.first.0 c.join.ensures.second.0 c.plus.ensures

pub returns-clause-most : goal.returns-clause-most
returns-clause-most g t c =
    let low = c.share_end-middle.ensures.low in
    let high = c.share_end-middle.ensures.high in
    let from = c.args.from in
    let to = c.args.to in
    let middle = c.share_end-middle.result in
    sum_most (2 * (middle - from)) (2 * (to - middle)) (2 * (to - from)) c.join.result.0 c.join.result.1 c.plus.result c.join.ensures.first.1 c.join.ensures.second.1 c.plus.ensures (omega (arith, low, high))
