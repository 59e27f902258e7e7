use Rattle.std.proofs.Common.{◌≡◌, ℕ, ◌-◌, ◌<◌, ◌≤◌, length, Some}
use Rattle.std.specs.List.{slice_get}
use Rattle.link_pins.specs.declared.pins.PinOn.{PinOn}
use Rattle.link_pins.proofs.timings.same_instance.Given as goal

abbrev pub invariant-pins : goal.invariant-pins
invariant-pins l = record {
  some : l.from < l.to;
  most : l.to ≤ length l.pins;
  same : (i : ℕ) (p q : PinOn) → l.from ≤ i → i < l.to → slice_get l.pins l.from ≡ Some p → slice_get l.pins i ≡ Some q → q.instance ≡ p.instance;
}

abbrev pub decreases-pins : goal.decreases-pins
decreases-pins l = length l.pins - l.to
