use Rattle.std.proofs.Common.{◌≡◌, ◌+◌, ℕ, List, length}
use Rattle.std.specs.List.{position_from}
use Rattle.std.specs.Str.{bytes_eq}
use Rattle.std.specs.Option.{option_or}
use Rattle.name_numbers.specs.Names.{value_of}
use Rattle.link_index.proofs.wires.numbers_of.Given as goal

abbrev pub invariant-instances : goal.invariant-instances
invariant-instances l = record {
  count : l.number + length l.rest ≡ length l.instances;
  each : (name : List ℕ)
      → option_or (value_of name l.numbers) (position_from (λ i. bytes_eq name i.name) l.number l.rest)
      ≡ position_from (λ i. bytes_eq name i.name) 0 l.instances;
}

abbrev pub decreases-instances : goal.decreases-instances
decreases-instances l = length l.rest
