-- A round ends: each action leaves fewer actions to come.
use Rattle.std.proofs.Common.{◌≡◌, ℕ, zero, suc, ◌+◌, ◌-◌, ◌*◌, ◌<◌, ◌≤◌, inl, inr, refl, sym, ap, subst, ◌∙◌, List, [], ◌∷◌, ◌++◌, length, set, get_or, max, arith}
use Rattle.std.specs.Prelude.{slice_index}
use Rattle.std.proofs.lemmas.Bool.{cases_lt}
use Rattle.std.proofs.Math.Nat.{mul_comm}
use Rattle.std.proofs.lemmas.Nat.{mul-add-lt}
use Rattle.std.proofs.lemmas.List.{length-append}
use Rattle.xt_model.specs.declared.net.NetId.{NetId}
use Rattle.xt_meaning.specs.Words.{number_at}
use Rattle.chaos_core.specs.declared.setting.Setting.{Setting}
use Rattle.chaos_core.specs.Boards.{nets_of}
use Rattle.chaos_core.specs.Tasks.{Task, idle, loading, publishing, done, list_of, word_to_load, with_loaded, moved_on}
use Rattle.chaos_core.specs.Steps.{Fits}
use Rattle.chaos_core.specs.Runs.{IsDone}
use Rattle.chaos_core.specs.Machine.{State, task_in, act, known_in, open_in, count_open}
use Rattle.chaos_core.proofs.Places.{ids_count}
use Rattle.chaos_core.proofs.Moves.{below, not_below}
use Rattle.chaos_core.proofs.Ends.{rest, loaded_rest}
use Rattle.chaos_core.proofs.Picks.{count_set, open_loaded}

-- the room that serves every read list
abbrev pub room_for : List (List NetId) → ℕ
room_for [] = 0
room_for (l ∷ lists) = max (8 * length l) (room_for lists)

pub room_serves : (lists : List (List NetId)) (net : ℕ) → 8 * length (list_of lists net) ≤ room_for lists
room_serves [] net = omega arith
room_serves (l ∷ lists) zero = let c = ids_count l in omega (arith, c)
room_serves (l ∷ lists) (suc net) = let h = room_serves lists net in omega (arith, h)

-- the actions that workers have yet to make for the nets they are at
abbrev pub rests : ℕ → List Task → ℕ
rests room [] = 0
rests room (t ∷ tasks) = rest room t + rests room tasks

rests_set : (room : ℕ) (tasks : List Task) (pick : ℕ) (u : Task) → pick < length tasks → rests room (set tasks pick u) + rest room (get_or tasks pick done) ≡ rests room tasks + rest room u
rests_set room [] pick u h = absurd (omega arith)
rests_set room (t ∷ tasks) zero u h =
    let a : rests room (set (t ∷ tasks) zero u) ≡ rest room u + rests room tasks = refl in
    let b : rests room (t ∷ tasks) ≡ rest room t + rests room tasks = refl in
    let c : rest room (get_or (t ∷ tasks) zero done) ≡ rest room t = refl in
    omega (arith, a, b, c)
rests_set room (t ∷ tasks) (suc pick) u h =
    let more = rests_set room tasks pick u (omega arith) in
    let a : rests room (set (t ∷ tasks) (suc pick) u) ≡ rest room t + rests room (set tasks pick u) = refl in
    let b : rests room (t ∷ tasks) ≡ rest room t + rests room tasks = refl in
    let c : rest room (get_or (t ∷ tasks) (suc pick) done) ≡ rest room (get_or tasks pick done) = refl in
    omega (arith, more, a, b, c)

-- the draws to come, times the actions that one can bring, and the actions for the nets that workers are at
abbrev pub countdown : ℕ → ℕ → State → ℕ
countdown room nets s = (room + 10) * ((nets - s.next) + count_open s.tasks) + rests room s.tasks

fewer_draws : (w a b r s t : ℕ) → a < b → r < w → t ≡ s + r → w * a + t < w * b + s
fewer_draws w a b r s t h k e = let m = mul-add-lt a w r b h k in let c : a * w ≡ w * a = mul_comm a w in omega (arith, m, c, e)

fewer_rests : (w a b s t : ℕ) → a ≡ b → t < s → w * a + t < w * b + s
fewer_rests w a b s t e h = rw e (omega (arith, h))

module _ (a : Setting) (lists : List (List NetId)) (order : List ℕ) (s : State) (pick room : ℕ) (fit : (net : ℕ) → 8 * length (list_of lists net) ≤ room) (inside : pick < length s.tasks) where
  -- the count of workers that are not done, and the rests, after a task is set
  open_set : (t u : Task) → task_in s pick ≡ t → count_open (set s.tasks pick u) + open_in t ≡ count_open s.tasks + open_in u
  open_set t u at = subst (λ v. count_open (set s.tasks pick u) + open_in v ≡ count_open s.tasks + open_in u) at (count_set s.tasks pick u inside)

  rest_set : (t u : Task) → task_in s pick ≡ t → rests room (set s.tasks pick u) + rest room t ≡ rests room s.tasks + rest room u
  rest_set t u at = subst (λ v. rests room (set s.tasks pick u) + rest room v ≡ rests room s.tasks + rest room u) at (rests_set room s.tasks pick u inside)

  pub act_nearer : (t : Task) → task_in s pick ≡ t → Fits (known_in a s) lists t → (IsDone t → ⊥) → countdown room (nets_of a) (act a lists order s pick t) < countdown room (nets_of a) s
  act_nearer idle at f go =
      let nets = nets_of a in
      let u = moved_on a.design lists order idle s.next in
      let c = open_set idle u at in
      let r = rest_set idle u at in
      elim (cases_lt s.next nets) [
        | inl p ↦
            let net = slice_index order s.next in
            let e : u ≡ with_loaded a.design (list_of lists net) net [] = rw (below s.next nets p) refl in
            let z = loaded_rest room a.design (list_of lists net) net [] in
            let small : rest room u ≤ 9 + room = subst (λ v. rest room v ≤ 9 + room) (sym e) (omega (arith, z)) in
            let one : open_in u ≡ 1 = ap open_in e ∙ open_loaded (known_in a s) lists net [] a in
            fewer_draws (room + 10) ((nets - (s.next + 1)) + count_open (set s.tasks pick u)) ((nets - s.next) + count_open s.tasks) (rest room u) (rests room s.tasks) (rests room (set s.tasks pick u))
            (omega (arith, p, c, one)) (omega (arith, small)) (omega (arith, r))
        | inr p ↦
            let e : u ≡ done = rw (not_below s.next nets p) refl in
            let none : open_in u ≡ 0 = ap open_in e in
            let no_rest : rest room u ≡ 0 = ap (rest room) e in
            fewer_draws (room + 10) ((nets - (s.next + 1)) + count_open (set s.tasks pick u)) ((nets - s.next) + count_open s.tasks) (rest room u) (rests room s.tasks) (rests room (set s.tasks pick u))
            (omega (arith, p, c, none)) (omega (arith, no_rest)) (omega (arith, r))
      ]
  act_nearer (loading net numbers) at f go =
      let nets = nets_of a in
      let n = number_at s.words (word_to_load (list_of lists net) (length numbers)) in
      let u = moved_on a.design lists order (loading net numbers) n in
      let c = open_set (loading net numbers) u at in
      let r = rest_set (loading net numbers) u at in
      let len : length (numbers ++ n ∷ []) ≡ length numbers + 1 = length-append numbers (n ∷ []) in
      let z = loaded_rest room a.design (list_of lists net) net (numbers ++ n ∷ []) in
      let x = f.more in
      let y = fit net in
      let one : open_in u ≡ 1 = open_loaded (known_in a s) lists net (numbers ++ n ∷ []) a in
      fewer_rests (room + 10) ((nets - s.next) + count_open (set s.tasks pick u)) ((nets - s.next) + count_open s.tasks) (rests room s.tasks) (rests room (set s.tasks pick u))
      (omega (arith, c, one)) (omega (arith, r, z, x, y, len))
  act_nearer (publishing net pair place) at f go =
      let nets = nets_of a in
      let n = number_at s.words (8 * net + place) in
      let u = moved_on a.design lists order (publishing net pair place) n in
      let c = open_set (publishing net pair place) u at in
      let r = rest_set (publishing net pair place) u at in
      let x = f.more in
      let both : (open_in u ≡ 1) × (rest room u < 8 - place) = elim (cases_lt (place + 1) 8) [
        | inl p ↦ rw (below (place + 1) 8 p) (refl, omega arith)
        | inr p ↦ rw (not_below (place + 1) 8 p) (refl, omega (arith, x))
      ] in
      let one = both.0 in
      let less = both.1 in
      fewer_rests (room + 10) ((nets - s.next) + count_open (set s.tasks pick u)) ((nets - s.next) + count_open s.tasks) (rests room s.tasks) (rests room (set s.tasks pick u))
      (omega (arith, c, one)) (omega (arith, r, less))
  act_nearer done at f go = absurd (go tt)
