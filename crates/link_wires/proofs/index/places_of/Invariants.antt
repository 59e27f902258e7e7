use Rattle.std.proofs.Common.{◌≡◌, ◌+◌, ℕ, List, length}
use Rattle.std.specs.List.{position_from}
use Rattle.std.specs.Str.{bytes_eq}
use Rattle.std.specs.Option.{option_or}
use Rattle.name_numbers.specs.Names.{value_of}
use Rattle.link_rules.specs.Nodes.{text_of}
use Rattle.link_wires.proofs.index.places_of.Given as goal

abbrev pub invariant-wires : goal.invariant-wires
invariant-wires l = record {
  count : l.place + length l.rest ≡ length l.parasitics.nets;
  each : (name : List ℕ)
      → option_or (value_of name l.places) (position_from (λ w. bytes_eq name (text_of l.parasitics w.name)) l.place l.rest)
      ≡ position_from (λ w. bytes_eq name (text_of l.parasitics w.name)) 0 l.parasitics.nets;
}

abbrev pub decreases-wires : goal.decreases-wires
decreases-wires l = length l.rest
