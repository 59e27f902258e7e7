-- Lists of workers: which are done, and which is picked.
use Rattle.std.proofs.Common.{◌≡◌, ℕ, zero, suc, ◌+◌, ◌-◌, ◌*◌, ◌%◌, ◌<◌, ◌≤◌, inl, inr, refl, sym, ap, subst, ◌∙◌, List, [], ◌∷◌, length, map, set, get_or, replicate, arith}
use Rattle.std.specs.List.{All}
use Rattle.std.proofs.Math.Nat.{add-mod_right}
use Rattle.std.proofs.lemmas.Nat.{mod-mul-add}
use Rattle.std.proofs.lemmas.Bool.{cases_lt}
use Rattle.std.proofs.lemmas.List.{length-map, length-replicate, get_or-map}
use Rattle.xt_model.specs.declared.net.NetId.{NetId}
use Rattle.xt_model.specs.Parts.{Parts}
use Rattle.xt_model.specs.Levels.{IsOrder}
use Rattle.net_eval.specs.ReadLists.{AreReadLists}
use Rattle.drawn_numbers.specs.Draws.{answer}
use Rattle.chaos_core.specs.declared.setting.Setting.{Setting}
use Rattle.chaos_core.specs.declared.worker.Worker.{Worker}
use Rattle.chaos_core.specs.declared.worker.Moved.{Moved}
use Rattle.chaos_core.specs.Boards.{nets_of, Knowledge}
use Rattle.chaos_core.specs.Tasks.{Task, idle, done, places_of, room_of, task_of}
use Rattle.chaos_core.specs.Steps.{Fits, IsFitting, Steps}
use Rattle.chaos_core.specs.Runs.{IsDone}
use Rattle.chaos_core.specs.Memories.{Memory, knowledge_of, AreKept, IsKept}
use Rattle.chaos_core.specs.Machine.{State, task_in, acted, IsGood, state_of, count_open}
use Rattle.chaos_core.specs.Rounds.{HasOpen, HasRoom, Play, play_at, IsPicked, IsPick, ArePicks, begun}
use Rattle.chaos_core.proofs.Actions.{act_reached}
use Rattle.chaos_core.proofs.Carrying.{begins, picks_gone}
use Rattle.chaos_core.proofs.Picks.{state_is, pick_state, pick_setting, pick_late}
use Rattle.chaos_core.proofs.Countdown.{countdown, room_for, room_serves, act_nearer}
use Rattle.chaos_core.proofs.Turns.{good_from, rooms_from, fits_from, rooms_set}

-- ---- all workers
pub all_done_from : (workers : List Worker) → ((k : ℕ) (x : Worker) → k < length workers → IsDone (task_of (get_or workers k x))) → All IsDone (map task_of workers)
all_done_from [] h k d lt = absurd (omega arith)
all_done_from (w ∷ workers) h zero d lt = h 0 w (omega arith)
all_done_from (w ∷ workers) h (suc k) d lt = all_done_from workers (λ i x k. h (suc i) x (omega arith)) k d (omega arith)

all_idle : (workers : List Worker) → ((k : ℕ) (x : Worker) → k < length workers → task_of (get_or workers k x) ≡ idle) → map task_of workers ≡ replicate (length workers) idle
all_idle [] h = refl
all_idle (w ∷ workers) h =
    let one : task_of w ≡ idle = h 0 w (omega arith) in
    let more = all_idle workers (λ i x k. h (suc i) x (omega arith)) in
    rw (one, more) refl

pub are_idle : (workers : List Worker) (count place : ℕ) → length workers ≡ count → count ≤ place → ((k : ℕ) (x : Worker) → k < place → task_of (get_or workers k x) ≡ idle)
    → map task_of workers ≡ replicate count idle
are_idle workers count place same far h =
    let P : ℕ → Type 0 = λ n. map task_of workers ≡ replicate n idle in
    subst P same (all_idle workers (λ k x lt. h k x (omega (arith, same, far, lt))))

-- ---- the next worker that is not done
pub task_of_place : (workers : List Worker) (number ahead place : ℕ) (x : Worker) → place ≡ (number + ahead) % length workers → place < length workers → IsDone (task_of (get_or workers place x))
    → IsDone (get_or (map task_of workers) ((number + ahead) % length workers) done)
task_of_place workers number ahead place x is inside dn =
    let P : ℕ → Type 0 = λ i. IsDone (get_or (map task_of workers) i done) in
    subst P is (subst IsDone (sym (get_or-map task_of workers place x done inside)) dn)

small_mod : (n m : ℕ) → n < m → n % m ≡ n
small_mod n m h = let z : 0 * m + n ≡ n = omega arith in subst (λ x. x % m ≡ n) z (mod-mul-add 0 m n h)

-- each place is met
met : (number count w : ℕ) → number < count → w < count → (i : ℕ) × (i < count) × ((number + i) % count ≡ w)
met number count w h k = elim (cases_lt w number) [
  | inl p ↦
      let e : number + (w + count - number) ≡ w + count = omega (arith, p, h) in
      (w + count - number, omega (arith, p, h), ap (λ n. n % count) e ∙ (add-mod_right w count ∙ small_mod w count k))
  | inr p ↦
      let e : number + (w - number) ≡ w = omega (arith, p) in
      (w - number, omega (arith, p, k), ap (λ n. n % count) e ∙ small_mod w count k)
]

past_done : (tasks : List Task) (w : ℕ) → length tasks ≤ w → IsDone (get_or tasks w done)
past_done [] w h = tt
past_done (t ∷ tasks) zero h = absurd (omega arith)
past_done (t ∷ tasks) (suc w) h = past_done tasks w (omega arith)

pub none_open : (workers : List Worker) (number : ℕ) → number < length workers → HasOpen (map task_of workers)
    → ((i : ℕ) → i < length workers → IsDone (get_or (map task_of workers) ((number + i) % length workers) done)) → ⊥
none_open workers number h open_one all =
    let tasks = map task_of workers in
    let w = open_one.0 in
    let c : length tasks ≡ length workers = length-map workers task_of in
    elim (cases_lt w (length workers)) [
      | inl p ↦
          let m = met number (length workers) w h p in
          open_one.1 (subst (λ i. IsDone (get_or tasks i done)) m.2 (all m.0 m.1))
      | inr p ↦ open_one.1 (past_done tasks w (omega (arith, c, p)))
    ]

-- ---- one pick
-- the number that was drawn below the count of the workers picks this one
pub picked_here : (workers : List Worker) (number state pick : ℕ) → number ≡ answer state (length workers) → IsPicked (map task_of workers) number pick → IsPicked (map task_of workers) (answer state (length (map task_of workers))) pick
picked_here workers number state pick is h =
    let c : length (map task_of workers) ≡ length workers = length-map workers task_of in
    let P : ℕ → Type 0 = λ n. IsPicked (map task_of workers) n pick in
    let Q : ℕ → Type 0 = λ n. IsPicked (map task_of workers) (answer state n) pick in
    subst Q (sym c) (subst P is h)

module _ (d : Parts) (lists : List (List NetId)) (order : List ℕ) (b c : Memory) (workers : List Worker) (pick : ℕ) (y w : Worker) (moved : Moved) (own : b.setting.design ≡ d) (inside : pick < length workers)
    (steps : Steps d lists order (knowledge_of b) (task_of (get_or workers pick y)) moved (knowledge_of c) (task_of w)) where
  own_steps : Steps b.setting.design lists order (knowledge_of b) (task_of (get_or workers pick y)) moved (knowledge_of c) (task_of w)
  own_steps =
      let P : Parts → Type 0 = λ v. Steps v lists order (knowledge_of b) (task_of (get_or workers pick y)) moved (knowledge_of c) (task_of w) in
      subst P (sym own) steps

  pub one_setting : c.setting ≡ b.setting
  one_setting = pick_setting b.setting lists order b c workers (set workers pick w) pick y w moved refl inside refl own_steps

  pub one_state : state_of c (set workers pick w) ≡ acted b.setting lists order (state_of b workers) pick
  one_state = pick_state b.setting lists order b c workers (set workers pick w) pick y w moved refl inside refl own_steps

  pub one_late : count_open (map task_of workers) ≤ (knowledge_of b).late → count_open (map task_of (set workers pick w)) ≤ (knowledge_of c).late
  one_late few = pick_late b.setting lists order b c workers (set workers pick w) pick y w moved refl inside refl own_steps few

  pub one_fits : AreReadLists d lists → IsOrder d.nets order → IsKept b → All (IsFitting (knowledge_of b) lists) workers → room_of w ≡ room_of (get_or workers pick y)
      → places_of w ≡ places_of (get_or workers pick y) → All (IsFitting (knowledge_of c) lists) (set workers pick w)
  one_fits are o kept fits room long =
      let a = b.setting in
      let s = state_of b workers in
      let good = good_from b lists workers kept fits in
      let P : Parts → Type 0 = λ v. AreReadLists v lists → IsOrder v.nets order → IsGood a lists (acted a lists order s pick) in
      let later = subst P own (λ x z. (act_reached a lists order s pick x z good (task_in s pick) (good.tasks pick)).good) are o in
      fits_from a c lists (set workers pick w) one_setting (subst (IsGood a lists) (sym one_state) later) (rooms_set lists workers pick y w inside room long (rooms_from (knowledge_of b) lists workers fits))

-- ---- a round
count_idle : (n : ℕ) → count_open (replicate n idle) ≡ n
count_idle zero = refl
count_idle (suc n) = let h = count_idle n in omega (arith, h)

module _ (workers : List Worker) (count : ℕ) (idles : map task_of workers ≡ replicate count idle) where
  each_idle : (k : ℕ) (x : Worker) → k < length workers → task_of (get_or workers k x) ≡ idle
  each_idle k x h =
      let n : length (map task_of workers) ≡ length workers = length-map workers task_of in
      let m : length (replicate count idle) ≡ count = length-replicate count idle in
      let e : length (map task_of workers) ≡ length (replicate count idle) = ap length idles in
      sym (get_or-map task_of workers k x done h) ∙ (ap (λ ts. get_or ts k done) idles ∙ at_replicate count k (omega (arith, n, m, e, h))) where
        at_replicate : (n k : ℕ) → k < n → get_or (replicate n idle) k done ≡ idle
        at_replicate zero k lt = absurd (omega arith)
        at_replicate (suc n) zero lt = refl
        at_replicate (suc n) (suc k) lt = at_replicate n k (omega arith)

  pub idle_fits : (k : Knowledge) (lists : List (List NetId)) → All (HasRoom lists) workers → All (IsFitting k lists) workers
  idle_fits k lists rooms = λ i x h. record { room = (rooms i x h).room; places = (rooms i x h).places; task = subst (Fits k lists) (sym (each_idle i x h)) tt }

  pub idle_few : (k : Knowledge) → count ≤ k.late → count_open (map task_of workers) ≤ k.late
  idle_few k few = let P : List Task → Type 0 = λ ts. count_open ts ≤ k.late in let c = count_idle count in subst P (sym idles) (omega (arith, c, few))

  pub idle_play : (source : ℕ) (m : Memory) → m.next ≡ 0 → play_at source m workers ≡ record { source = source; state = begun count m.words }
  idle_play source m e = let s : state_of m workers ≡ begun count m.words = state_is (state_of m workers) (begun count m.words) refl e idles in let at : State → Play = λ t. record { source = source; state = t } in ap at s

module _ (a : Setting) (d : Parts) (lists : List (List NetId)) (order : List ℕ) (words : List ℕ) (workers source : ℕ) (p : Play) (own : a.design ≡ d) (are : AreReadLists d lists) (o : IsOrder d.nets order) (kept : AreKept a words)
    (n : ℕ) (picks : ArePicks a lists order n (record { source = source; state = begun workers words }) p) where
  good_now : IsGood a lists p.state
  good_now =
      let P : Parts → Type 0 = λ v. AreReadLists v lists → IsOrder v.nets order → IsGood a lists p.state in
      subst P own (λ x z. (picks_gone a lists order (begun workers words) n (record { source = source; state = begun workers words }) p x z picks (begins a lists order workers words kept)).good) are o

  -- a pick leaves fewer actions to come
  pub pick_nearer : (q : Play) → IsPick a lists order p q → countdown (room_for lists) (length d.nets) q.state < countdown (room_for lists) (length d.nets) p.state
  pick_nearer q pick =
      let s = p.state in
      let room = room_for lists in
      let less = act_nearer a lists order s pick.pick room (room_serves lists) pick.picked.inside (task_in s pick.pick) refl (good_now.tasks pick.pick) pick.picked.open_there in
      let P : Parts → Type 0 = λ v. countdown room (length v.nets) q.state < countdown room (length v.nets) s in
      let Q : State → Type 0 = λ t. countdown room (nets_of a) t < countdown room (nets_of a) s in
      subst P own (subst Q (sym pick.state) less)
