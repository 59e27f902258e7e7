use Rattle.std.specs.Option.{option_or}
use Rattle.std.proofs.Common.{◌≡◌, ℕ, List, length}
use Rattle.name_numbers.specs.Names.{value_of}
use Rattle.link_index.proofs.wires.wires_of.Given as goal

abbrev pub invariant-pins : goal.invariant-pins
invariant-pins l = (name : List ℕ) → option_or (value_of name l.wires) (value_of name l.rest) ≡ value_of name l.pins

abbrev pub decreases-pins : goal.decreases-pins
decreases-pins l = length l.rest
