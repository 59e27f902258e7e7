use Rattle.std.proofs.Common.{◌≡◌, length}
use Rattle.link_pins.specs.Places.{AreThose}
use Rattle.link_pins.proofs.arcs.Places.clear.Given as goal

abbrev pub invariant-loop-k : goal.invariant-loop-k
invariant-loop-k l = record {
  count : length l.self.at.items ≡ length l.initial.self.at.items;
  those : AreThose l.pins l.k l.to l.self.at.items;
}
