use Rattle.std.proofs.Common.{◌≡◌, length}
use Rattle.link_pins.proofs.KeptLaws.{AreSoFar}
use Rattle.link_pins.proofs.related.Related.new.Given as goal

abbrev pub invariant-loop-cell : goal.invariant-loop-cell
invariant-loop-cell l = record {
  count : length l.made.items ≡ l.cell;
  all : AreSoFar l.cells l.made.items;
}
