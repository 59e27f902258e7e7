use Rattle.std.proofs.Common.{w64, SFits, to_z-of_z, rules, arith}
use Rattle.std.proofs.lemmas.Int.{ints}
use Rattle.glitch_noise.proofs.Spans.{periodic_is}
use Rattle.glitch_noise.proofs.changes.push_range.Goals as goal

pub returns-in-Some : goal.returns-in-Some
returns-in-Some c =
    let fits : SFits w64 c.in-Some.period = search rules in
    periodic_is _ _ _ c.args.period c.in-Some.period c.args.from c.args.to c.args.cap _ _ _ _ c.in-Some.is
    (to_z-of_z fits) (to_z-of_z c.ranges.from) (omega (arith, ints)) (to_z-of_z c.ranges.cap) c.push_periodic.ensures
