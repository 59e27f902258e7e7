use Rattle.std.proofs.Common.{◌≡◌, ◌++◌, take}
use Rattle.xt_meaning.specs.Words.{numbers_of}
use Rattle.chaos_core.proofs.words.push_numbers.Given as goal

abbrev pub invariant-loop-pair : goal.invariant-loop-pair
invariant-loop-pair l = l.words.items ≡ l.initial.words.items ++ numbers_of (take l.pair-index l.pairs)
