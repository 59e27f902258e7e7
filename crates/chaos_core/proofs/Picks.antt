-- A step of a worker on words in memory is an action of the machine.
use Rattle.std.proofs.Common.{◌≡◌, ℕ, zero, suc, ◌+◌, ◌*◌, ◌%◌, ◌<◌, ◌≤◌, inl, inr, refl, sym, ap, subst, ◌∙◌, List, [], ◌∷◌, ◌++◌, length, map, set, get_or, arith}
use Rattle.std.specs.Prelude.{slice_index}
use Rattle.std.specs.List.{range_with_len}
use Rattle.std.proofs.lemmas.Bool.{cases_lt}
use Rattle.std.proofs.lemmas.List.{get_or-map, map-set, set-get_or, length-append, length-map}
use Rattle.std.proofs.lemmas.List.FromFn.{length-range_with_len, get_or-range_with_len}
use Rattle.xt_model.specs.declared.net.NetId.{NetId}
use Rattle.xt_meaning.specs.Words.{quiet_number, number_for, number_at, further}
use Rattle.chaos_core.specs.declared.setting.Setting.{Setting}
use Rattle.chaos_core.specs.declared.worker.Worker.{Worker}
use Rattle.chaos_core.specs.declared.worker.Moved.{Moved}
use Rattle.chaos_core.specs.Boards.{nets_of, Knowledge, Loads, Publishes, Draws}
use Rattle.chaos_core.specs.Tasks.{Task, idle, loading, publishing, done, task_of, list_of, word_to_load, bound_at, with_loaded, moved_on}
use Rattle.chaos_core.specs.Steps.{Steps}
use Rattle.chaos_core.specs.Memories.{Memory, knowledge_of}
use Rattle.chaos_core.specs.Machine.{State, act, acted, state_of, open_in, count_open}
use Rattle.chaos_core.proofs.Moves.{below, not_below}
use Rattle.chaos_core.proofs.Loads.{last_at}

-- ---- words
same_next : (m n : ℕ) → range_with_len 0 m ≡ range_with_len 0 n → m ≡ n
same_next m n e =
    let a : length (range_with_len 0 m) ≡ m = length-range_with_len 0 m in
    let b : length (range_with_len 0 n) ≡ n = length-range_with_len 0 n in
    let c : length (range_with_len 0 m) ≡ length (range_with_len 0 n) = ap length e in
    omega (arith, a, b, c)

-- a number that is drawn from words in memory is the next one
pub drawn_next : (b c : Memory) (n : ℕ) → Draws (knowledge_of b) n (knowledge_of c) → (n ≡ b.next) × (c.next ≡ b.next + 1)
drawn_next b c n h =
    let e : range_with_len 0 c.next ≡ range_with_len 0 b.next ++ n ∷ [] = ap (λ (k : Knowledge). k.drawn) h.after in
    let p : length (range_with_len 0 b.next) ≡ b.next = length-range_with_len 0 b.next in
    let q : length (range_with_len 0 c.next) ≡ c.next = length-range_with_len 0 c.next in
    let r : length (range_with_len 0 b.next ++ n ∷ []) ≡ length (range_with_len 0 b.next) + 1 = length-append (range_with_len 0 b.next) (n ∷ []) in
    let s : length (range_with_len 0 c.next) ≡ length (range_with_len 0 b.next ++ n ∷ []) = ap length e in
    let next : c.next ≡ b.next + 1 = omega (arith, p, q, r, s) in
    let at : get_or (range_with_len 0 c.next) b.next 0 ≡ 0 + b.next = get_or-range_with_len 0 c.next b.next 0 (omega (arith, next)) in
    let last : get_or (range_with_len 0 b.next ++ n ∷ []) b.next 0 ≡ n = last_at (range_with_len 0 b.next) n b.next p in
    let same : get_or (range_with_len 0 c.next) b.next 0 ≡ get_or (range_with_len 0 b.next ++ n ∷ []) b.next 0 = ap (λ xs. get_or xs b.next 0) e in
    (omega (arith, at, last, same), next)

-- ---- one step
pub state_is : (s t : State) → s.words ≡ t.words → s.next ≡ t.next → s.tasks ≡ t.tasks → s ≡ t
state_is s t x y z = let e : ◌≡◌ {A = State} (record { words = s.words; next = s.next; tasks = s.tasks }) (record { words = t.words; next = t.next; tasks = t.tasks }) = rw (x, y, z) refl in e

step_state : (a : Setting) (lists : List (List NetId)) (order : List ℕ) (b c : Memory) (tasks : List Task) (pick : ℕ) (t u : Task) (moved : Moved) → b.setting ≡ a → get_or tasks pick done ≡ t
    → Steps a.design lists order (knowledge_of b) t moved (knowledge_of c) u
    → record { words = c.words; next = c.next; tasks = set tasks pick u } ≡ act a lists order (record { words = b.words; next = b.next; tasks = tasks }) pick t
step_state a lists order b c tasks pick idle u moved own at s =
    let d : Draws (knowledge_of b) s.answer (knowledge_of c) = s.acts in
    let n = drawn_next b c s.answer d in
    let w : c.words ≡ b.words = ap (λ (k : Knowledge). k.seen) d.after in
    let x : u ≡ moved_on a.design lists order idle b.next = s.next ∙ ap (λ i. moved_on a.design lists order idle i) n.0 in
    state_is (record { words = c.words; next = c.next; tasks = set tasks pick u }) (act a lists order (record { words = b.words; next = b.next; tasks = tasks }) pick idle) w n.1 (ap (λ v. set tasks pick v) x)
step_state a lists order b c tasks pick (loading net numbers) u moved own at s =
    let word = word_to_load (list_of lists net) (length numbers) in
    let h : Loads (knowledge_of b) word s.answer (knowledge_of c) = s.acts in
    let n : s.answer ≡ number_at b.words word = h.found.alone refl in
    let w : c.words ≡ b.words = ap (λ (k : Knowledge). k.seen) h.after ∙ (ap (λ i. set b.words word i) n ∙ set-get_or b.words word (quiet_number (word % 2))) in
    let x : u ≡ moved_on a.design lists order (loading net numbers) (number_at b.words word) = s.next ∙ ap (λ i. moved_on a.design lists order (loading net numbers) i) n in
    let next : c.next ≡ b.next = same_next c.next b.next (ap (λ (k : Knowledge). k.drawn) h.after) in
    state_is (record { words = c.words; next = c.next; tasks = set tasks pick u }) (act a lists order (record { words = b.words; next = b.next; tasks = tasks }) pick (loading net numbers)) w next
    (ap (λ v. set tasks pick v) x)
step_state a lists order b c tasks pick (publishing net pair place) u moved own at s =
    let word = 8 * net + place in
    let value = number_for (bound_at pair place) in
    let h : Publishes (knowledge_of b) word s.answer (further b.setting.way (word % 2) s.answer value) (knowledge_of c) = s.acts in
    let n : s.answer ≡ number_at b.words word = h.found.alone refl in
    let w : c.words ≡ set b.words word (further a.way (word % 2) (number_at b.words word) value) =
    ap (λ (k : Knowledge). k.seen) h.after ∙ (ap (λ i. set b.words word (further b.setting.way (word % 2) i value)) n ∙ ap (λ (x : Setting). set b.words word (further x.way (word % 2) (number_at b.words word) value)) own) in
    let x : u ≡ moved_on a.design lists order (publishing net pair place) (number_at b.words word) = s.next ∙ ap (λ i. moved_on a.design lists order (publishing net pair place) i) n in
    let next : c.next ≡ b.next = same_next c.next b.next (ap (λ (k : Knowledge). k.drawn) h.after) in
    state_is (record { words = c.words; next = c.next; tasks = set tasks pick u }) (act a lists order (record { words = b.words; next = b.next; tasks = tasks }) pick (publishing net pair place)) w next
    (ap (λ v. set tasks pick v) x)
step_state a lists order b c tasks pick done u moved own at s =
    let h : knowledge_of c ≡ knowledge_of b = s.acts in
    let w : c.words ≡ b.words = ap (λ (k : Knowledge). k.seen) h in
    let next : c.next ≡ b.next = same_next c.next b.next (ap (λ (k : Knowledge). k.drawn) h) in
    let x : set tasks pick u ≡ tasks = ap (λ v. set tasks pick v) (s.next ∙ sym at) ∙ set-get_or tasks pick done in
    state_is (record { words = c.words; next = c.next; tasks = set tasks pick u }) (record { words = b.words; next = b.next; tasks = tasks }) w next x

pub step_setting : (a : Setting) (lists : List (List NetId)) (order : List ℕ) (b c : Memory) (t u : Task) (moved : Moved) → Steps a.design lists order (knowledge_of b) t moved (knowledge_of c) u → c.setting ≡ b.setting
step_setting a lists order b c idle u moved s = let h : Draws (knowledge_of b) s.answer (knowledge_of c) = s.acts in ap (λ (k : Knowledge). k.setting) h.after
step_setting a lists order b c (loading net numbers) u moved s = ap (λ (k : Knowledge). k.setting) s.acts.after
step_setting a lists order b c (publishing net pair place) u moved s = ap (λ (k : Knowledge). k.setting) s.acts.after
step_setting a lists order b c done u moved s = ap (λ (k : Knowledge). k.setting) s.acts

-- ---- workers that are not done
pub count_set : (tasks : List Task) (pick : ℕ) (u : Task) → pick < length tasks → count_open (set tasks pick u) + open_in (get_or tasks pick done) ≡ count_open tasks + open_in u
count_set [] pick u h = absurd (omega arith)
count_set (t ∷ tasks) zero u h =
    let a : count_open (set (t ∷ tasks) zero u) ≡ open_in u + count_open tasks = refl in
    let b : count_open (t ∷ tasks) ≡ open_in t + count_open tasks = refl in
    let c : open_in (get_or (t ∷ tasks) zero done) ≡ open_in t = refl in
    omega (arith, a, b, c)
count_set (t ∷ tasks) (suc pick) u h =
    let more = count_set tasks pick u (omega arith) in
    let a : count_open (set (t ∷ tasks) (suc pick) u) ≡ open_in t + count_open (set tasks pick u) = refl in
    let b : count_open (t ∷ tasks) ≡ open_in t + count_open tasks = refl in
    let c : open_in (get_or (t ∷ tasks) (suc pick) done) ≡ open_in (get_or tasks pick done) = refl in
    omega (arith, more, a, b, c)

count_at : (tasks : List Task) (pick : ℕ) → pick < length tasks → open_in (get_or tasks pick done) ≤ count_open tasks
count_at [] pick h = absurd (omega arith)
count_at (t ∷ tasks) zero h =
    let b : count_open (t ∷ tasks) ≡ open_in t + count_open tasks = refl in
    let c : open_in (get_or (t ∷ tasks) zero done) ≡ open_in t = refl in
    omega (arith, b, c)
count_at (t ∷ tasks) (suc pick) h =
    let more = count_at tasks pick (omega arith) in
    let b : count_open (t ∷ tasks) ≡ open_in t + count_open tasks = refl in
    let c : open_in (get_or (t ∷ tasks) (suc pick) done) ≡ open_in (get_or tasks pick done) = refl in
    omega (arith, more, b, c)

pub open_loaded : (k : Knowledge) (lists : List (List NetId)) (net : ℕ) (numbers : List ℕ) (a : Setting) → open_in (with_loaded a.design (list_of lists net) net numbers) ≡ 1
open_loaded k lists net numbers a = elim (cases_lt (length numbers) (8 * length (list_of lists net))) [
  | inl p ↦ rw (below (length numbers) (8 * length (list_of lists net)) p) refl
  | inr p ↦ rw (not_below (length numbers) (8 * length (list_of lists net)) p) refl
]

step_late : (a : Setting) (lists : List (List NetId)) (order : List ℕ) (b c : Memory) (tasks : List Task) (pick : ℕ) (t u : Task) (moved : Moved) → b.setting ≡ a → get_or tasks pick done ≡ t → pick < length tasks
    → Steps a.design lists order (knowledge_of b) t moved (knowledge_of c) u → count_open tasks ≤ (knowledge_of b).late → count_open (set tasks pick u) ≤ (knowledge_of c).late
step_late a lists order b c tasks pick idle u moved own at inside s few =
    let d : Draws (knowledge_of b) s.answer (knowledge_of c) = s.acts in
    let n = drawn_next b c s.answer d in
    let n0 = n.0 in
    let n1 = n.1 in
    let nets = nets_of a in
    let same : nets_of b.setting ≡ nets = ap (λ (x : Setting). nets_of x) own in
    let later : nets_of c.setting ≡ nets_of b.setting = ap (λ (k : Knowledge). nets_of k.setting) d.after in
    let count = count_set tasks pick u inside in
    let one : open_in (get_or tasks pick done) ≡ 1 = ap open_in at in
    elim (cases_lt s.answer nets) [
      | inl p ↦
          let x : open_in u ≡ 1 = ap open_in s.next ∙ rw (below s.answer nets p) (open_loaded (knowledge_of b) lists (slice_index order s.answer) [] a) in
          omega (arith, few, n0, n1, p, x, count, one, same, later)
      | inr p ↦
          let x : open_in u ≡ 0 = ap open_in s.next ∙ rw (not_below s.answer nets p) refl in
          omega (arith, few, n0, n1, p, x, count, one, same, later)
    ]
step_late a lists order b c tasks pick (loading net numbers) u moved own at inside s few =
    let late : (knowledge_of c).late ≡ (knowledge_of b).late = ap (λ (k : Knowledge). k.late) s.acts.after in
    let count = count_set tasks pick u inside in
    let one : open_in (get_or tasks pick done) ≡ 1 = ap open_in at in
    let x : open_in u ≡ 1 = ap open_in s.next ∙ open_loaded (knowledge_of b) lists net (numbers ++ s.answer ∷ []) a in
    rw late (omega (arith, few, count, one, x))
step_late a lists order b c tasks pick (publishing net pair place) u moved own at inside s few =
    let late : (knowledge_of c).late ≡ (knowledge_of b).late = ap (λ (k : Knowledge). k.late) s.acts.after in
    let count = count_set tasks pick u inside in
    let one : open_in (get_or tasks pick done) ≡ 1 = ap open_in at in
    let x : open_in u ≡ 1 = ap open_in s.next ∙ elim (cases_lt (place + 1) 8) [ inl p ↦ rw (below (place + 1) 8 p) refl | inr p ↦ rw (not_below (place + 1) 8 p) refl ] in
    rw late (omega (arith, few, count, one, x))
step_late a lists order b c tasks pick done u moved own at inside s few =
    let late : (knowledge_of c).late ≡ (knowledge_of b).late = ap (λ (k : Knowledge). k.late) s.acts in
    let count = count_set tasks pick u inside in
    let one : open_in (get_or tasks pick done) ≡ 0 = ap open_in at in
    let x : open_in u ≡ 0 = ap open_in s.next in
    rw late (omega (arith, few, count, one, x))

-- ---- a list of workers
tasks_count : (workers : List Worker) → length (map task_of workers) ≡ length workers
tasks_count workers = length-map workers task_of

pub task_there : (workers : List Worker) (pick : ℕ) (x : Worker) → pick < length workers → get_or (map task_of workers) pick done ≡ task_of (get_or workers pick x)
task_there workers pick x h = get_or-map task_of workers pick x done h

-- ---- one pick
module _ (a : Setting) (lists : List (List NetId)) (order : List ℕ) (b c : Memory) (workers later : List Worker) (pick : ℕ) (x w : Worker) (moved : Moved) (own : b.setting ≡ a) (inside : pick < length workers)
    (is : later ≡ set workers pick w) (s : Steps a.design lists order (knowledge_of b) (task_of (get_or workers pick x)) moved (knowledge_of c) (task_of w)) where
  set_tasks : map task_of later ≡ set (map task_of workers) pick (task_of w)
  set_tasks = ap (λ ws. map task_of ws) is ∙ map-set task_of workers pick w

  pub pick_state : state_of c later ≡ acted a lists order (state_of b workers) pick
  pick_state =
      let ts = map task_of workers in
      let t = task_of (get_or workers pick x) in
      let at : get_or ts pick done ≡ t = task_there workers pick x inside in
      let one = step_state a lists order b c ts pick t (task_of w) moved own at s in
      let two : state_of c later ≡ record { words = c.words; next = c.next; tasks = set ts pick (task_of w) } =
      state_is (state_of c later) (record { words = c.words; next = c.next; tasks = set ts pick (task_of w) }) refl refl set_tasks in
      two ∙ (one ∙ ap (λ v. act a lists order (state_of b workers) pick v) (sym at))

  pub pick_setting : c.setting ≡ b.setting
  pick_setting = step_setting a lists order b c (task_of (get_or workers pick x)) (task_of w) moved s

  pub pick_late : count_open (map task_of workers) ≤ (knowledge_of b).late → count_open (map task_of later) ≤ (knowledge_of c).late
  pick_late few =
      let ts = map task_of workers in
      let n = tasks_count workers in
      let P : List Task → Type 0 = λ v. count_open v ≤ (knowledge_of c).late in
      subst P (sym set_tasks) (step_late a lists order b c ts pick (task_of (get_or workers pick x)) (task_of w) moved own (task_there workers pick x inside) (omega (arith, n, inside)) s few)

-- an idle worker may still draw
pub may_draw : (b : Memory) (workers : List Worker) (pick : ℕ) (x : Worker) → pick < length workers → count_open (map task_of workers) ≤ (knowledge_of b).late → task_of (get_or workers pick x) ≡ idle
    → 0 < (knowledge_of b).late
may_draw b workers pick x inside few e =
    let n = tasks_count workers in
    let k = count_at (map task_of workers) pick (omega (arith, n, inside)) in
    let one : open_in (get_or (map task_of workers) pick done) ≡ 1 = ap open_in (task_there workers pick x inside ∙ e) in
    omega (arith, few, k, one)
