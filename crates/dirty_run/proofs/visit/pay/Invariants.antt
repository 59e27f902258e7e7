use Rattle.net_eval.specs.ReadLists.{ids}
use Rattle.dirty_words.specs.Boards.{IsOf}
use Rattle.dirty_run.proofs.Paying.{IsPaying}
use Rattle.dirty_run.proofs.visit.pay.Given as goal

abbrev pub invariant-loop-reader : goal.invariant-loop-reader
invariant-loop-reader l = record {
  own : IsOf l.board l.pass;
  paying : IsPaying l.fn.pass.view (ids l.readers) l.reader-index l.pass.view;
}
