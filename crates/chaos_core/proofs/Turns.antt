-- Workers on words in memory, between picks.
use Rattle.std.proofs.Common.{◌≡◌, ℕ, zero, suc, ◌+◌, ◌<◌, ◌≤◌, refl, sym, subst, ◌∙◌, List, [], ◌∷◌, ◌++◌, length, map, set, take, get_or, arith}
use Rattle.std.specs.List.{All, fold}
use Rattle.std.proofs.lemmas.List.{take_more}
use Rattle.std.proofs.lemmas.List.Elements.{All-set}
use Rattle.xt_model.specs.declared.net.NetId.{NetId}
use Rattle.xt_model.specs.Parts.{Parts}
use Rattle.xt_model.specs.Levels.{IsOrder}
use Rattle.net_eval.specs.ReadLists.{AreReadLists}
use Rattle.chaos_core.specs.declared.setting.Setting.{Setting}
use Rattle.chaos_core.specs.declared.worker.Worker.{Worker}
use Rattle.chaos_core.specs.declared.worker.Moved.{Moved}
use Rattle.chaos_core.specs.Boards.{Knowledge}
use Rattle.chaos_core.specs.Tasks.{Task, done, places_of, room_of, task_of}
use Rattle.chaos_core.specs.Steps.{Fits, IsFitting, Steps}
use Rattle.chaos_core.specs.Memories.{Memory, knowledge_of, IsKept}
use Rattle.chaos_core.specs.Machine.{State, acted, scheduled, IsGood, IsReached, state_of, count_open}
use Rattle.chaos_core.specs.Rounds.{HasRoom}
use Rattle.chaos_core.proofs.Actions.{schedule_reached}
use Rattle.chaos_core.proofs.Picks.{task_there, pick_state, pick_late, step_setting}

all_tasks : (P : Task → Type 0) (workers : List Worker) → ((k : ℕ) (x : Worker) → k < length workers → P (task_of (get_or workers k x))) → P done → (w : ℕ) → P (get_or (map task_of workers) w done)
all_tasks P [] h last w = last
all_tasks P (x ∷ workers) h last zero = h 0 x (omega arith)
all_tasks P (x ∷ workers) h last (suc w) = all_tasks P workers (λ k y i. h (suc k) y (omega arith)) last w

pub good_from : (m : Memory) (lists : List (List NetId)) (workers : List Worker) → IsKept m → All (IsFitting (knowledge_of m) lists) workers → IsGood m.setting lists (state_of m workers)
good_from m lists workers kept fits = record {
  words = kept.words;
  tasks = all_tasks (Fits (knowledge_of m) lists) workers (λ k x h. (fits k x h).task) tt;
}

pub rooms_from : (k : Knowledge) (lists : List (List NetId)) (workers : List Worker) → All (IsFitting k lists) workers → All (HasRoom lists) workers
rooms_from k lists workers fits = λ i x h. record { room = (fits i x h).room; places = (fits i x h).places }

pub fits_from : (a : Setting) (m : Memory) (lists : List (List NetId)) (workers : List Worker) → m.setting ≡ a → IsGood a lists (state_of m workers) → All (HasRoom lists) workers
    → All (IsFitting (knowledge_of m) lists) workers
fits_from a m lists workers own good rooms =
    let P : Setting → Type 0 = λ b. IsGood b lists (state_of m workers) in
    let good' : IsGood m.setting lists (state_of m workers) = subst P (sym own) good in
    λ i x h. record {
      room = (rooms i x h).room;
      places = (rooms i x h).places;
      task = subst (Fits (knowledge_of m) lists) (task_there workers i x h) (good'.tasks i);
    }

pub room_kept : (lists : List (List NetId)) (before after : Worker) → room_of after ≡ room_of before → places_of after ≡ places_of before
    → HasRoom lists before → HasRoom lists after
room_kept lists before after same long h = record {
  room = λ net. let r = h.room net in omega (arith, same, r);
  places = let p = h.places in omega (arith, long, p);
}

pub rooms_set : (lists : List (List NetId)) (workers : List Worker) (pick : ℕ) (x w : Worker) → pick < length workers → room_of w ≡ room_of (get_or workers pick x)
    → places_of w ≡ places_of (get_or workers pick x) → All (HasRoom lists) workers → All (HasRoom lists) (set workers pick w)
rooms_set lists workers pick x w inside same long rooms =
    let own : HasRoom lists w = room_kept lists (get_or workers pick x) w same long (rooms pick x inside) in
    All-set (HasRoom lists) workers pick w own rooms

-- one pick more
fold_push : (f : State → ℕ → State) (z : State) (xs : List ℕ) (y : ℕ) → fold f z (xs ++ y ∷ []) ≡ f (fold f z xs) y
fold_push f z [] y = refl
fold_push f z (v ∷ xs) y = fold_push f (f z v) xs y

pub picked_more : (a : Setting) (lists : List (List NetId)) (order : List ℕ) (s t u : State) (picks : List ℕ) (i x : ℕ) → i < length picks → t ≡ scheduled a lists order s (take i picks)
    → u ≡ acted a lists order t (get_or picks i x) → u ≡ scheduled a lists order s (take (i + 1) picks)
picked_more a lists order s t u picks i x within before one =
    let m = take_more picks i x within in
    let f = fold_push (acted a lists order) s (take i picks) (get_or picks i x) in
    rw (m, f, ← before) one

-- ---- after the picks so far
module _ (a : Setting) (d : Parts) (lists : List (List NetId)) (order : List ℕ) (s : State) (own : a.design ≡ d) (are : AreReadLists d lists) (o : IsOrder d.nets order) (good : IsGood a lists s) where
  pub reached_by : (picks : List ℕ) → IsReached a lists s (scheduled a lists order s picks)
  reached_by picks =
      let P : Parts → Type 0 = λ x. AreReadLists x lists → IsOrder x.nets order → IsReached a lists s (scheduled a lists order s picks) in
      subst P own (λ x y. schedule_reached a lists order s picks x y good) are o

  pub turn_fits : (m : Memory) (workers : List Worker) (picks : List ℕ) → m.setting ≡ a → state_of m workers ≡ scheduled a lists order s picks → All (HasRoom lists) workers
      → All (IsFitting (knowledge_of m) lists) workers
  turn_fits m workers picks same e rooms = fits_from a m lists workers same (subst (IsGood a lists) (sym e) (reached_by picks).good) rooms

  pub turn_state : (b c : Memory) (workers later : List Worker) (picks : List ℕ) (i x : ℕ) (y w : Worker) (moved : Moved) → b.setting ≡ a → i < length picks → get_or picks i x < length workers
      → later ≡ set workers (get_or picks i x) w → Steps d lists order (knowledge_of b) (task_of (get_or workers (get_or picks i x) y)) moved (knowledge_of c) (task_of w)
      → state_of b workers ≡ scheduled a lists order s (take i picks) → state_of c later ≡ scheduled a lists order s (take (i + 1) picks)
  turn_state b c workers later picks i x y w moved same within inside is steps before =
      let pick = get_or picks i x in
      let P : Parts → Type 0 = λ v. Steps v lists order (knowledge_of b) (task_of (get_or workers pick y)) moved (knowledge_of c) (task_of w) → state_of c later ≡ acted a lists order (state_of b workers) pick in
      let one = subst P own (λ st. pick_state a lists order b c workers later pick y w moved same inside is st) steps in
      picked_more a lists order s (state_of b workers) (state_of c later) picks i x within before one

  pub turn_late : (b c : Memory) (workers later : List Worker) (pick : ℕ) (y w : Worker) (moved : Moved) → b.setting ≡ a → pick < length workers → later ≡ set workers pick w
      → Steps d lists order (knowledge_of b) (task_of (get_or workers pick y)) moved (knowledge_of c) (task_of w)
      → count_open (map task_of workers) ≤ (knowledge_of b).late → count_open (map task_of later) ≤ (knowledge_of c).late
  turn_late b c workers later pick y w moved same inside is steps few =
      let P : Parts → Type 0 = λ v. Steps v lists order (knowledge_of b) (task_of (get_or workers pick y)) moved (knowledge_of c) (task_of w) → count_open (map task_of later) ≤ (knowledge_of c).late in
      subst P own (λ st. pick_late a lists order b c workers later pick y w moved same inside is st few) steps

  pub turn_setting : (b c : Memory) (t u : Task) (moved : Moved) → b.setting ≡ a → Steps d lists order (knowledge_of b) t moved (knowledge_of c) u → c.setting ≡ a
  turn_setting b c t u moved same steps =
      let P : Parts → Type 0 = λ v. Steps v lists order (knowledge_of b) t moved (knowledge_of c) u → c.setting ≡ b.setting in
      subst P own (λ st. step_setting a lists order b c t u moved st) steps ∙ same
