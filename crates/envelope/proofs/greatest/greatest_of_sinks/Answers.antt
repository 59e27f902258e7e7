use Rattle.std.proofs.Common.{◌∙◌, ap}
use Rattle.xt_meaning.specs.Wires.{wire_delay}
use Rattle.envelope.specs.Greatest.{IsWireDelay}
use Rattle.envelope.proofs.Wires.{delay_kept, sinks_more}
use Rattle.envelope.proofs.greatest.greatest_of_sinks.Goals as goal

pub loop-sink-preserved : goal.loop-sink-preserved
loop-sink-preserved c =
    let v = c.args.victim.now in
    let w = c.wire_range-wire.ensures in
    let wire = c.wire_range-wire.result.1 in
    let delay : IsWireDelay wire = record { low = w.greatest_natural; high = w.greatest_small } in
    let kept = delay_kept wire delay in
    sinks_more v.miller v.net c.loop-sink.sink wire _ c.max-greatest.result (w.greatest ∙ ap (λ ms. wire_delay ms v.net c.loop-sink.sink) c.requires.highest)
    delay c.loop-sink.invariant (rw kept at c.max-greatest.ensures.value)
