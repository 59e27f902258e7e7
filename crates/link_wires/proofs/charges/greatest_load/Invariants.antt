use Rattle.std.proofs.Common.{◌≡◌, ◌+◌, ◌*◌, ◌≤◌, ◌^◌, take, length}
use Rattle.elmore_tree.specs.Trees.{tap_sum}
use Rattle.link_wires.specs.Wires.{charge_sum}
use Rattle.link_wires.proofs.charges.greatest_load.Given as goal

abbrev pub invariant-loop-charge : goal.invariant-loop-charge
invariant-loop-charge l = record {
  value : l.load ≡ charge_sum (take l.charge-index l.charges);
  most : l.load ≤ 2 ^ 63 * l.charge-index;
}

abbrev pub invariant-loop-tap : goal.invariant-loop-tap
invariant-loop-tap l = record {
  value : l.load ≡ charge_sum l.charges + 2 * tap_sum (take l.tap-index l.taps);
  most : l.load ≤ 2 ^ 63 * length l.charges + 2 ^ 64 * l.tap-index;
}
