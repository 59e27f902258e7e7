use Rattle.std.proofs.Common.{◌≡◌, false, take}
use Rattle.std.specs.List.{list_any}
use Rattle.hier_flatten.specs.Names.{is_long}
use Rattle.hier_flatten.proofs.names.has_long_net.Given as goal

abbrev pub invariant-loop-number : goal.invariant-loop-number
invariant-loop-number l = list_any (λ net. is_long net.0) (take l.number l.nets) ≡ false
