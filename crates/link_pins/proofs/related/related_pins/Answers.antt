use Rattle.std.proofs.Common.{◌≡◌, ◌∙◌, length, sym, ap, arith}
use Rattle.std.specs.Prelude.{flat_map}
use Rattle.std.proofs.lemmas.List.{take_all}
use Rattle.link_pins.specs.Related.{group_related}
use Rattle.link_pins.specs.Timed.{TimedPins}
use Rattle.link_pins.proofs.KeptLaws.{read_there}
use Rattle.link_pins.proofs.related.related_pins.Goals as goal

pub loop-number-init : goal.loop-number-init
loop-number-init c = record {
  timings = ap (λ (p : TimedPins). p.timings) c.new-pins.ensures ∙ c.timings-timings.ensures;
  related = λ x there. ap (λ (p : TimedPins). p.items) c.new-pins.ensures;
}

pub add_timing-requires-clause-there : goal.add_timing-requires-clause-there
add_timing-requires-clause-there c =
    let same : c.loop-number.pins.timings ≡ c.timings-timings.result.now = c.loop-number.invariant.timings ∙ sym c.timings-timings.ensures in
    rw same
    (read_there c.timings-timings.result.now c.loop-number.number c.index-timings-number.result c.index-timings-number.result c.loop-number-test.true c.index-timings-number.is)

pub returns : goal.returns
returns c = λ x there.
    c.loop-number.invariant.related x there
    ∙ ap (flat_map (group_related x c.args.part.now.role))
    (take_all c.loop-number.number c.args.part.now.timings (omega (arith, c.loop-number-test.false, ap length c.timings-timings.ensures)))
