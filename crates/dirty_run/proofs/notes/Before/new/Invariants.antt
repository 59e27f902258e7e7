use Rattle.std.proofs.Common.{◌≡◌, length}
use Rattle.std.specs.List.{All}
use Rattle.dirty_run.specs.Notes.{AreNotes}
use Rattle.dirty_run.proofs.notes.Before.new.Given as goal

abbrev pub invariant-loop-number : goal.invariant-loop-number
invariant-loop-number l = record {
  count : length l.notes.items ≡ l._number;
  noted : All (AreNotes l.design l.lists) l.notes.items;
}
