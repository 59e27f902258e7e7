use Rattle.std.proofs.Common.{◌≡◌, ◌+◌, ℕ, List, length}
use Rattle.std.specs.List.{position_from}
use Rattle.std.specs.Str.{bytes_eq}
use Rattle.std.specs.Option.{option_or}
use Rattle.name_numbers.specs.Names.{value_of}
use Rattle.link_index.proofs.places.cell_places.Given as goal

abbrev pub invariant-cells : goal.invariant-cells
invariant-cells l = record {
  count : l.place + length l.rest ≡ length l.cells;
  each : (name : List ℕ)
      → option_or (value_of name l.places) (position_from (λ c. bytes_eq name c.name) l.place l.rest)
      ≡ position_from (λ c. bytes_eq name c.name) 0 l.cells;
}

abbrev pub decreases-cells : goal.decreases-cells
decreases-cells l = length l.rest
