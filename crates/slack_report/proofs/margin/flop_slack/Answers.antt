use Rattle.std.proofs.Common.{arith}
use Rattle.std.proofs.lemmas.Int.{ints}
use Rattle.slack_report.proofs.margin.flop_slack.Goals as goal

pub returns-then-hold : goal.returns-then-hold
returns-then-hold c =
    let d = c.requires.datum in
    let k = c.requires.clock in
    let n = c.requires.need in
    rw c.if-hold.true (omega (arith, ints, d.tlo.least, d.tlo.most, k.thi.least, k.thi.most, n.low, n.high))

pub returns-else-hold : goal.returns-else-hold
returns-else-hold c =
    let d = c.requires.datum in
    let k = c.requires.clock in
    let n = c.requires.need in
    let p = c.requires.period in
    rw c.if-hold.false (omega (arith, ints, d.thi.least, d.thi.most, k.tlo.least, k.tlo.most, n.low, n.high, p.least, p.most))
