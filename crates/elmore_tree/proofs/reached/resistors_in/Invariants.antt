use Rattle.std.proofs.Common.{◌≡◌, take, ◌≤◌}
use Rattle.elmore_tree.specs.Paths.{resistors_in}
use Rattle.elmore_tree.proofs.reached.resistors_in.Given as goal

abbrev pub invariant-loop-resistor : goal.invariant-loop-resistor
invariant-loop-resistor l = record {
  count : l.count ≡ resistors_in l.reached (take l.resistor-index l.resistors);
  few : l.count ≤ l.resistor-index;
}
