use Rattle.std.proofs.Common.{◌≡◌, length, Some}
use Rattle.std.specs.List.{All, slice_get}
use Rattle.liberty_cells.specs.declared.cell.Cell.{Cell}
use Rattle.link_rules.specs.Refusals.{pin_fault}
use Rattle.text_forms.specs.Names.{IsShortName}
use Rattle.link_pins.proofs.instances.check_instance.Given as goal

abbrev pub invariant-pins : goal.invariant-pins
invariant-pins l = record {
  same : (c : Cell) → slice_get l.cells.cells l.cell ≡ Some c
      → pin_fault c l.instance.name l.rest ≡ pin_fault c l.instance.name l.instance.pins;
  names : All (λ p. IsShortName p.0) l.rest;
}

abbrev pub decreases-pins : goal.decreases-pins
decreases-pins l = length l.rest
