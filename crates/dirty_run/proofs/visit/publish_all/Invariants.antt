use Rattle.std.proofs.Common.{◌≡◌, Some}
use Rattle.dirty_words.specs.declared.view.Flight.{Flight}
use Rattle.dirty_words.specs.Boards.{IsOf}
use Rattle.dirty_run.specs.Visits.{IsPublishing}
use Rattle.dirty_run.proofs.visit.publish_all.Given as goal

abbrev pub invariant-loop-place : goal.invariant-loop-place
invariant-loop-place l = record {
  own : IsOf l.board l.pass;
  published : (f : Flight) → l.fn.pass.view.flight ≡ Some f → IsPublishing l.fn.pass.view l.fn.net.0 l.pair f l.place l.moved l.pass.view;
}
