use Rattle.std.proofs.Common.{◌≡◌, ◌+◌, ℕ, List, length}
use Rattle.std.specs.List.{position_from}
use Rattle.std.specs.Str.{bytes_eq}
use Rattle.std.specs.Option.{option_or}
use Rattle.name_numbers.specs.Names.{value_of}
use Rattle.link_index.proofs.places.pin_places.Given as goal

abbrev pub invariant-pins : goal.invariant-pins
invariant-pins l = record {
  count : l.place + length l.rest ≡ length l.pins;
  each : (name : List ℕ)
      → option_or (value_of name l.places) (position_from (λ p. bytes_eq name p.name) l.place l.rest)
      ≡ position_from (λ p. bytes_eq name p.name) 0 l.pins;
}

abbrev pub decreases-pins : goal.decreases-pins
decreases-pins l = length l.rest
