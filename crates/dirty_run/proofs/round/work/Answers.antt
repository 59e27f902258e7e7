use Rattle.dirty_run.proofs.round.work.Goals as goal

pub returns : goal.returns
returns g c = record {
  own = c.run_worker.ensures.own;
  ran = c.run_worker.ensures.ran;
  room = c.run_worker.ensures.room;
}
