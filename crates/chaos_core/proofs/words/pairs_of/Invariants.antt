use Rattle.std.proofs.Common.{◌≡◌, ◌-◌, ◌%◌, ◌≤◌, length, take}
use Rattle.std.specs.List.{All}
use Rattle.xt_model.specs.Quads.{IsPairInRange}
use Rattle.xt_meaning.specs.Words.{numbers_of}
use Rattle.chaos_core.proofs.words.pairs_of.Given as goal

abbrev pub invariant-pairs : goal.invariant-pairs
invariant-pairs l = record {
  numbers : numbers_of l.pairs.items ≡ take l.from l.words;
  range : All IsPairInRange l.pairs.items;
  whole : l.from % 8 ≡ 0;
  inside : l.from ≤ length l.words;
}

abbrev pub decreases-pairs : goal.decreases-pairs
decreases-pairs l = length l.words - l.from
