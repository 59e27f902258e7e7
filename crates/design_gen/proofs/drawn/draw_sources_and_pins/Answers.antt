use Rattle.std.proofs.Common.{◌∙◌, arith}
use Rattle.std.proofs.lemmas.List.{length-map}
use Rattle.design_gen.proofs.PinLaws.{pins_few}
use Rattle.design_gen.proofs.DrawnLaws.{as_many, are_below, hold_pins, are_places, windows_are}
use Rattle.design_gen.proofs.drawn.draw_sources_and_pins.Goals as goal

pub sinks_by_driver-requires-clause-drivers : goal.sinks_by_driver-requires-clause-drivers
sinks_by_driver-requires-clause-drivers c =
    are_below c.args.number c.args.nets c.requires.count c.deref.result.now (c.deref.ensures.value ∙ c.in_ok-drivers.ensures.drivers)

pub sinks_by_driver-requires-clause-few : goal.sinks_by_driver-requires-clause-few
sinks_by_driver-requires-clause-few c =
    let l = as_many c.args.number c.args.nets c.requires.count c.deref.result.now (c.deref.ensures.value ∙ c.in_ok-drivers.ensures.drivers) in
    let p = pins_few c.args.nets in
    let most = c.requires.count.most in
    omega (arith, l, p, most)

pub returns-clause-drawn : goal.returns-clause-drawn
returns-clause-drawn c =
    let e = c.deref.ensures.value ∙ c.in_ok-drivers.ensures.drivers in
    record {
      count = c.requires.count;
      are_windows = windows_are c.args.number c.args.nets c.args.source.now.state c.sources.result _ c.in_ok-windows.ensures.windows c.requires.state c.sources.ensures;
      are_drivers = c.in_ok-drivers.ensures.drivers;
      are_sinks = hold_pins c.args.number c.args.nets c.requires.count c.deref.result.now e _ c.in_ok-sinks.ensures.rows;
      sink_rows = length-map c.in_ok-sinks.sinks.rows.items (λ r. r.items) ∙ c.in_ok-sinks.ensures.count;
      are_places = are_places c.args.number c.args.nets c.requires.count c.deref.result.now e c.in_ok-sinks.sinks.places.items c.in_ok-sinks.ensures.places;
    }
