use Rattle.std.proofs.Common.{◌≡◌, ◌++◌, drop}
use Rattle.std.specs.List.{All}
use Rattle.xt_model.specs.Sound.{IsProduct}
use Rattle.eco_warm.specs.Edits.{coefs_left}
use Rattle.eco_warm.proofs.couplings.coefs_left.Given as goal

abbrev pub invariant-loop-index : goal.invariant-loop-index
invariant-loop-index l = record {
  rest : (l.left.items ++ coefs_left l.moving l.other.0 (drop l.index l.couplings) (drop l.index l.coefs)) ≡ coefs_left l.moving l.other.0 l.couplings l.coefs;
  range : All IsProduct l.left.items;
}
