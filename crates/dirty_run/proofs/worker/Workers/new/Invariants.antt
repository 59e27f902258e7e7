use Rattle.std.proofs.Common.{◌≡◌, ◌≤◌, length, vec_capacity}
use Rattle.std.specs.List.{All}
use Rattle.dirty_run.specs.Visits.{HasRoom}
use Rattle.dirty_run.proofs.worker.Workers.new.Given as goal

abbrev pub invariant-loop-number : goal.invariant-loop-number
invariant-loop-number l = record {
  count : length l.idle.items ≡ l._number;
  room : l.count ≤ vec_capacity l.idle;
  rooms : All (HasRoom l.design l.lists) l.idle.items;
}
