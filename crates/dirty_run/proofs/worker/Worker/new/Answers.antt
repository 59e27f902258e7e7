use Rattle.std.proofs.Common.{arith}
use Rattle.net_eval.specs.ReadLists.{reads_of}
use Rattle.chaos_core.proofs.Places.{ids_count}
use Rattle.dirty_run.proofs.Noting.{none_noted}
use Rattle.dirty_run.proofs.worker.Worker.new.Goals as goal

pub returns : goal.returns
returns c = record {
  room = record {
    room = λ net.
        let most = c.longest.ensures.most net in
        let n = ids_count (reads_of c.args.lists.now net) in
        omega (arith, most, n, c.in-Some.ensures.1, c.in_ok-loaded.ensures.len, c.in_ok-loaded.loaded.ok.0);
    notes = none_noted c.args.design.now c.args.lists.now c.new-notes.result c.new-notes.ensures;
    places = omega (arith, c.count.ensures, c.in_ok-places.ensures.len, c.in_ok-places.places.ok.0);
  };
}
