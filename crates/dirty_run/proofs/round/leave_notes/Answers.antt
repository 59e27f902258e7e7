use Rattle.std.proofs.Common.{rules, ◌<◌, sym, subst, length, arith}
use Rattle.std.proofs.lemmas.List.{length-set}
use Rattle.std.proofs.lemmas.List.Elements.{All-set}
use Rattle.dirty_run.specs.declared.worker.Worker.{Worker}
use Rattle.dirty_run.specs.Visits.{HasRoom}
use Rattle.dirty_run.proofs.round.leave_notes.Goals as goal

pub loop-number-preserved : goal.loop-number-preserved
loop-number-preserved g c =
    let d = c.args.run.now.design.now in
    let lists = c.args.run.now.lists.now in
    let inv = c.loop-number.invariant in
    let roomy = inv.idle.roomy in
    let items = c.loop-number.workers.idle.items in
    let k = c.loop-number.number in
    let worker = c.index_mut.result.now in
    let there : k < length items = search rules in
    let had : HasRoom d lists worker = subst (HasRoom d lists) (sym c.index_mut.ensures.value) (roomy.rooms k worker there) in
    let took = c.take.ensures.notes d lists had.notes roomy.before in
    let later : Worker = record worker { notes = c.take.new.notes } in
    let has : HasRoom d lists later = record { room = had.room; notes = took.0; places = had.places } in
    let long = length-set items k later in
    let all = roomy.all in
    let passes = roomy.passes in
    let count = roomy.count in
    let same = c.take.ensures.count in
    let were = inv.count in
    record {
      idle = record {
        roomy = record {
          all = omega (arith, all, long);
          passes = omega (arith, passes, long);
          rooms = All-set (HasRoom d lists) items k later has roomy.rooms;
          before = took.1;
          count = omega (arith, count, long, same);
        };
        none = inv.idle.none;
      };
      count = omega (arith, long, were);
    }
