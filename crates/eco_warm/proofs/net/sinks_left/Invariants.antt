use Rattle.std.proofs.Common.{◌≡◌, map, take}
use Rattle.std.specs.List.{All}
use Rattle.eco_warm.specs.Edits.{sink_left}
use Rattle.eco_warm.specs.Possible.{HasProducts}
use Rattle.eco_warm.proofs.net.sinks_left.Given as goal

abbrev pub invariant-loop-sink : goal.invariant-loop-sink
invariant-loop-sink l = record {
  done : l.left.items ≡ map (sink_left l.moving l.other.0 l.couplings) (take l.sink-index l.sinks);
  possible : All HasProducts l.left.items;
}
