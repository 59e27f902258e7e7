use Rattle.std.proofs.Common.{◌≡◌, ◌+◌, ◌*◌, length, take}
use Rattle.dirty_words.specs.Boards.{IsOf}
use Rattle.dirty_run.specs.Visits.{IsLoading}
use Rattle.dirty_run.proofs.visit.load_all.Given as goal

abbrev pub invariant-loop-read : goal.invariant-loop-read
invariant-loop-read l = record {
  own : IsOf l.board l.pass;
  loading : IsLoading l.fn.pass.view l.fn.net.0 (take (8 * l.read) l.loaded) l.pass.view;
  room : length l.loaded ≡ length l.fn.loaded;
}

abbrev pub invariant-loop-place : goal.invariant-loop-place
invariant-loop-place l = record {
  own : IsOf l.board l.pass;
  loading : IsLoading l.fn.pass.view l.fn.net.0 (take (8 * l.read + l.place) l.loaded) l.pass.view;
  room : length l.loaded ≡ length l.fn.loaded;
}
