use Rattle.std.proofs.Common.{◌≡◌, length}
use Rattle.link_pins.specs.Places.{AreEntries, AreListed}
use Rattle.link_pins.proofs.arcs.Places.enter.Given as goal

abbrev pub invariant-loop-k : goal.invariant-loop-k
invariant-loop-k l = record {
  count : length l.self.at.items ≡ length l.initial.self.at.items;
  entries : AreEntries l.cells l.pins l.places l.from l.k l.self.at.items;
  listed : AreListed l.fn.self → AreListed l.self;
  from : l.self.from ≡ l.from;
}
