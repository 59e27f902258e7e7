use Rattle.std.proofs.Common.{◌≡◌, ◌+◌, ◌++◌, refl}
use Rattle.report_text.specs.Pieces.{live_among, switching}
use Rattle.report_text.proofs.Widths.{sum_counts, live_net}
use Rattle.report_text.proofs.tally.net_tally.Goals as goal

pub returns-clause-is : goal.returns-clause-is
returns-clause-is c =
    let low = c.args.low.now in
    let high = c.args.high.now in
    let nets = c.args.design.now.nets in
    let net = c.args.net in
    let edges : live_among low high net (net + 1) nets ≡ switching c.of-rise.result ++ switching c.of-fall.result =
    rw (c.of-rise.ensures, c.of-fall.ensures) (live_net low high nets net c.requires.net) in
    let both = sum_counts (switching c.of-rise.result) (switching c.of-fall.result) (live_among low high net (net + 1) nets) 0 0 0
    c.of_edge.result c.of_edge-2.result c.plus-tally.result c.of_edge.ensures.is c.of_edge-2.ensures.is c.plus-tally.ensures edges refl in
    record { live = both.live; wider = both.wider; guilty = c.guilty_count.ensures.count; least = both.least; greatest = both.greatest }
