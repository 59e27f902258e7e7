use Rattle.std.proofs.Common.{arith}
use Rattle.std.proofs.lemmas.Int.{ints}
use Rattle.slack_report.proofs.margin.port_slack.Goals as goal

pub returns-then-hold : goal.returns-then-hold
returns-then-hold c =
    let d = c.requires.datum in
    let n = c.requires.delay in
    rw c.if-hold.true (omega (arith, ints, d.tlo.least, d.tlo.most, n.least, n.most))

pub returns-else-hold : goal.returns-else-hold
returns-else-hold c =
    let d = c.requires.datum in
    let n = c.requires.delay in
    let p = c.requires.period in
    rw c.if-hold.false (omega (arith, ints, d.thi.least, d.thi.most, n.least, n.most, p.least, p.most))
