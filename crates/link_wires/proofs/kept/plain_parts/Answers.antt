use Rattle.std.proofs.Common.{rules, ◌≡◌, length, arith}
use Rattle.link_wires.proofs.KeptLaws.{plain_stored}
use Rattle.link_wires.proofs.kept.plain_parts.Goals as goal

pub returns-in-len1-clause-value : goal.returns-in-len1-clause-value
returns-in-len1-clause-value c =
    let resistors : length c.resistors.result.now ≡ 0 = search rules in
    let taps : length c.taps.result.now ≡ 0 = search rules in
    let couplings : length c.args.wire.now.couplings ≡ 0 = omega (arith, c.if-len-gt0.false, c.len.ensures) in
    let one : length c.ground.result.now ≡ 1 = omega (arith, c.in-len1.len_at_least, c.in-len1.len_below) in
    plain_stored c.args.wire.now c.resistors.result.now c.ground.result.now c.taps.result.now c.sinks.result.now c.ground.ensures.sound couplings
    c.resistors.ensures.value resistors c.taps.ensures.value taps c.ground.ensures.value one c.sinks.ensures.value
