use Rattle.std.proofs.Common.{◌≡◌, ◌++◌, drop}
use Rattle.std.specs.List.{All}
use Rattle.xt_model.specs.Quads.{IsPairInRange}
use Rattle.eco_warm.specs.Starts.{met}
use Rattle.eco_warm.proofs.run_starts.met.Given as goal

abbrev pub invariant-loop-net : goal.invariant-loop-net
invariant-loop-net l = record {
  rest : (l.pairs.items ++ met (drop l.net l.windows) (drop l.net l.others)) ≡ met l.windows l.others;
  range : All IsPairInRange l.pairs.items;
}
