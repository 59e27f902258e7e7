use Rattle.std.proofs.Common.{◌<◌, length, arith}
use Rattle.chaos_core.proofs.Sparing.{own_read}
use Rattle.chaos_core.proofs.alike.is_own_alike.Goals as goal

pub is_still-still-requires : goal.is_still-still-requires
is_still-still-requires g c =
    let some : 0 < length c.net.result.now.arcs = omega (arith, c.if-len-eq0.false, c.len.ensures) in
    (own_read (g.T.TwoTimes.has c.args.two.now) c.args.design.now c.args.net.0 c.net.result.now c.requires.read c.net.ensures.there some).own

pub has_answers_alike-requires-clause-read : goal.has_answers_alike-requires-clause-read
has_answers_alike-requires-clause-read g c =
    let some : 0 < length c.net.result.now.arcs = omega (arith, c.if-len-eq0.false, c.len.ensures) in
    own_read (g.T.TwoTimes.has c.args.two.now) c.args.design.now c.args.net.0 c.net.result.now c.requires.read c.net.ensures.there some
