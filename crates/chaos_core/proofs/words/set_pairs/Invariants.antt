use Rattle.std.proofs.Common.{◌≡◌, ◌*◌, length, take}
use Rattle.std.specs.List.{All}
use Rattle.xt_model.specs.Quads.{IsPairInRange}
use Rattle.xt_meaning.specs.Words.{numbers_of}
use Rattle.chaos_core.proofs.words.set_pairs.Given as goal

abbrev pub invariant-loop-net : goal.invariant-loop-net
invariant-loop-net l = record {
  count : length l.windows ≡ length l.fn.windows;
  numbers : numbers_of (take l.net l.windows) ≡ take (8 * l.net) l.words;
  range : All IsPairInRange l.windows;
}
