use Rattle.std.proofs.Common.{◌≡◌, false, take}
use Rattle.std.specs.List.{list_any}
use Rattle.hier_flatten.specs.Names.{has_bit_name}
use Rattle.hier_flatten.proofs.names.have_bit_names.Given as goal

abbrev pub invariant-loop-number : goal.invariant-loop-number
invariant-loop-number l = list_any (has_bit_name l.table) (take l.number l.table) ≡ false
