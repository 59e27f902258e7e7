use Rattle.std.proofs.Common.{◌≡◌, inl, inr, subst, ◌+◌, ◌%◌, length, map, get_or, arith}
use Rattle.std.proofs.lemmas.Bool.{cases_lt}
use Rattle.chaos_core.specs.declared.worker.Worker.{Worker}
use Rattle.chaos_core.specs.Tasks.{done, task_of}
use Rattle.chaos_core.specs.Runs.{IsDone}
use Rattle.chaos_core.proofs.Workers.{task_of_place, none_open}
use Rattle.chaos_core.proofs.round.next_open.Goals as goal

pub loop-ahead-preserved : goal.loop-ahead-preserved
loop-ahead-preserved c = λ i lt. elim (cases_lt i c.loop-ahead.ahead) [
  | inl p ↦ c.loop-ahead.invariant i p
  | inr p ↦
      let x = c.index-workers-place.result in
      let ws = c.args.workers.now in
      let place = c.place_after-place.result in
      let dn : IsDone (task_of (get_or ws place x)) = subst (λ (w : Worker). IsDone (task_of w)) c.index-workers-place.is (c.is_done.ensures.0 c.if-not-is_done.false) in
      let here = task_of_place ws c.args.number c.loop-ahead.ahead place x c.place_after-place.ensures.place c.place_after-place.ensures.inside dn in
      let e : c.loop-ahead.ahead ≡ i = omega (arith, p, lt) in
      subst (λ j. IsDone (get_or (map task_of ws) ((c.args.number + j) % length ws) done)) e here
]

pub returns-clause-picked : goal.returns-clause-picked
returns-clause-picked c = absurd (none_open c.args.workers.now c.args.number c.requires.number c.requires.open (λ i lt. c.loop-ahead.invariant i (omega (arith, lt, c.loop-ahead-test.false))))
