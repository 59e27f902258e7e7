use Rattle.std.proofs.Common.{◌≡◌, map, take}
use Rattle.design_gen.specs.Generated.{sink_of}
use Rattle.design_gen.proofs.nets.sinks.Given as goal

abbrev pub invariant-loop-pin : goal.invariant-loop-pin
invariant-loop-pin l = l.sinks.items ≡ map (sink_of l.nets l.load l.couplings) (take l.pin-index l.numbers)
