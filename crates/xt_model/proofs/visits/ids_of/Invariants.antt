use Rattle.std.proofs.Common.{◌≡◌, map, take}
use Rattle.xt_model.proofs.visits.ids_of.Given as goal

abbrev pub invariant-loop-number : goal.invariant-loop-number
invariant-loop-number l = map (λ n. n.0) l.ids.items ≡ take l.number-index l.numbers
