use Rattle.std.proofs.Common.{◌≡◌, ◌++◌}
use Rattle.chaos_core.proofs.Numbered.{first_numbers}
use Rattle.chaos_core.proofs.words.push_pair.Given as goal

abbrev pub invariant-loop-place : goal.invariant-loop-place
invariant-loop-place l = l.words.items ≡ l.initial.words.items ++ first_numbers l.pair l.place
