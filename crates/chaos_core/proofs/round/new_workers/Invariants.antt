use Rattle.std.proofs.Common.{◌≡◌, length}
use Rattle.std.specs.List.{All}
use Rattle.chaos_core.specs.Rounds.{HasRoom}
use Rattle.chaos_core.proofs.round.new_workers.Given as goal

abbrev pub invariant-loop-number : goal.invariant-loop-number
invariant-loop-number l = record { count : length l.workers.items ≡ l._number; rooms : All (HasRoom l.lists) l.workers.items }
