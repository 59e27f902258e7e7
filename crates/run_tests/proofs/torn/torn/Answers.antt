use Rattle.std.proofs.Common.{◌≡◌, ℕ, ◌+◌, ◌-◌, ◌≤◌, refl, ap, ◌∙◌, List, [], ◌∷◌, length, map, arith}
use Rattle.std.proofs.lemmas.List.{length-map}
use Rattle.chaos_core.specs.declared.worker.Worker.{Worker}
use Rattle.chaos_core.specs.Tasks.{Task, idle, loading, publishing, done, task_of}
use Rattle.chaos_core.specs.Memories.{Memory}
use Rattle.chaos_core.specs.Machine.{open_in, count_open}
use Rattle.run_tests.proofs.torn.torn.Goals as goal

open_small : (t : Task) → open_in t ≤ 1
open_small idle = omega arith
open_small (loading net numbers) = omega arith
open_small (publishing net pair place) = omega arith
open_small done = omega arith

open_few : (tasks : List Task) → count_open tasks ≤ length tasks
open_few [] = omega arith
open_few (t ∷ tasks) =
    let a = open_small t in
    let b = open_few tasks in
    let c : count_open (t ∷ tasks) ≡ open_in t + count_open tasks = refl in
    omega (arith, a, b, c)

pub run_schedule-requires-clause-late : goal.run_schedule-requires-clause-late
run_schedule-requires-clause-late c =
    let workers = c.as_mut_slice.result.now in
    let n : length workers ≡ 2 = ap length c.as_mut_slice.ensures.value ∙ c.in_ok-workers.ensures.count in
    let m : length (map task_of workers) ≡ length workers = length-map workers task_of in
    let few = open_few (map task_of workers) in
    let next : c.in_ok-board.board.next ≡ 0 = ap (λ (b : Memory). b.next) c.in_ok-board.ensures in
    omega (arith, n, m, few, next)
