use Rattle.std.proofs.Common.{◌≡◌, ◌+◌}
use Rattle.drawn_numbers.specs.Draws.{after}
use Rattle.design_gen.specs.Taps.{sources, driver_of}
use Rattle.design_gen.specs.Lists.{each_below}
use Rattle.design_gen.proofs.drivers.draw_drivers.Given as goal

abbrev pub invariant-loop-pin : goal.invariant-loop-pin
invariant-loop-pin l = record {
  drivers : l.drivers.items ≡ each_below (driver_of l.number l.nets) l.pin;
  state : l.source.state ≡ after l.number (sources l.nets + l.pin);
}
