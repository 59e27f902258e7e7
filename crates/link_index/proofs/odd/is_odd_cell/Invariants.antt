use Rattle.std.proofs.Common.{◌≡◌, false, take}
use Rattle.std.specs.List.{list_any}
use Rattle.link_rules.specs.Refusals.{is_odd_pin}
use Rattle.link_index.proofs.odd.is_odd_cell.Given as goal

abbrev pub invariant-loop-place : goal.invariant-loop-place
invariant-loop-place l = list_any (is_odd_pin l.cell) (take l.place l.cell.pins) ≡ false
