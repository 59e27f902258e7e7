-- A worker's run ends: the numbers that it draws grow.
use Rattle.std.proofs.Common.{◌≡◌, ℕ, ◌+◌, ◌-◌, ◌*◌, ◌<◌, ◌≤◌, inl, inr, sym, ap, subst, List, [], ◌∷◌, ◌++◌, length, arith}
use Rattle.std.specs.Prelude.{slice_index}
use Rattle.std.proofs.lemmas.Bool.{cases_lt}
use Rattle.std.proofs.Math.Nat.{mul_comm}
use Rattle.std.proofs.lemmas.Nat.{mul-add-lt}
use Rattle.std.proofs.lemmas.List.{length-append}
use Rattle.xt_model.specs.declared.net.NetId.{NetId}
use Rattle.xt_model.specs.Parts.{Parts}
use Rattle.chaos_core.specs.declared.worker.Moved.{Moved}
use Rattle.chaos_core.specs.Boards.{nets_of, Knowledge, Draws}
use Rattle.chaos_core.specs.Tasks.{Task, idle, loading, publishing, done, list_of, with_loaded}
use Rattle.chaos_core.specs.Steps.{Fits, Steps}
use Rattle.chaos_core.specs.Runs.{IsDone}
use Rattle.chaos_core.proofs.Moves.{below, not_below}
use Rattle.xt_model.specs.Sound.{IsSound}
use Rattle.xt_model.specs.Levels.{IsOrder}
use Rattle.net_eval.specs.ReadLists.{AreReadLists}
use Rattle.chaos_core.proofs.Running.{above, above_at_most, above_more, Running, run_step}

-- how many actions a worker with this room has yet to make at a task
abbrev pub rest : ℕ → Task → ℕ
rest room idle = 0
rest room (loading net numbers) = 9 + (room - length numbers)
rest room (publishing net pair place) = 8 - place
rest room done = 0

-- the places of the order that it may yet draw, times the actions that a place takes, and the rest
abbrev pub ahead : ℕ → ℕ → List ℕ → Task → ℕ
ahead room nets drawn t = (room + 10) * (nets + 1 - above drawn) + rest room t

pub loaded_rest : (room : ℕ) (d : Parts) (reads : List ℕ) (net : ℕ) (numbers : List ℕ) → rest room (with_loaded d reads net numbers) ≤ 9 + (room - length numbers)
loaded_rest room d reads net numbers = elim (cases_lt (length numbers) (8 * length reads)) [
  | inl p ↦ rw (below (length numbers) (8 * length reads) p) (omega arith)
  | inr p ↦ rw (not_below (length numbers) (8 * length reads) p) (omega arith)
]

fewer : (w a b r : ℕ) → a < b → r < w → w * a + r < w * b + 0
fewer w a b r h k = let m = mul-add-lt a w r b h k in let c : a * w ≡ w * a = mul_comm a w in omega (arith, m, c)

drawn_nearer : (room nets n : ℕ) (drawn : List ℕ) (t : Task) → above drawn ≤ nets → above drawn ≤ n → rest room t < room + 10 → ahead room nets (drawn ++ n ∷ []) t < ahead room nets drawn idle
drawn_nearer room nets n drawn t few less small =
    let more = above_more drawn n less in
    let far : nets + 1 - above (drawn ++ n ∷ []) < nets + 1 - above drawn = omega (arith, more, few, less) in
    fewer (room + 10) (nets + 1 - above (drawn ++ n ∷ [])) (nets + 1 - above drawn) (rest room t) far small

same_place : (room nets : ℕ) (before after : List ℕ) (t u : Task) → after ≡ before → rest room u < rest room t → ahead room nets after u < ahead room nets before t
same_place room nets before after t u e h = rw e (omega (arith, h))

pub step_nearer : (lists : List (List NetId)) (order : List ℕ) (k l m : Knowledge) (t u : Task) (moved : Moved) (room : ℕ) → ((net : ℕ) → 8 * length (list_of lists net) ≤ room) → Fits l lists t
    → Steps k.setting.design lists order l t moved m u → Running lists order k l t → (IsDone t → ⊥) → ahead room (nets_of k.setting) m.drawn u < ahead room (nets_of k.setting) l.drawn t
step_nearer lists order k l m idle u moved room fit fits s r go =
    let nets = nets_of k.setting in
    let n = s.answer in
    let draws : Draws l n m = s.acts in
    let P : List ℕ → Type 0 = λ xs. ahead room nets xs u < ahead room nets l.drawn idle in
    let e : m.drawn ≡ l.drawn ++ n ∷ [] = ap (λ (x : Knowledge). x.drawn) draws.after in
    let Q : Task → Type 0 = λ x. rest room x < room + 10 in
    let small : rest room u < room + 10 = subst Q (sym s.next) (elim (cases_lt n nets) [
      | inl p ↦ rw (below n nets p) (let z = loaded_rest room k.setting.design (list_of lists (slice_index order n)) (slice_index order n) [] in omega (arith, z))
      | inr p ↦ rw (not_below n nets p) (omega arith)
    ]) in
    subst P (sym e) (drawn_nearer room nets n l.drawn u (r.few go) (above_at_most l.drawn n draws.greater) small)
step_nearer lists order k l m (loading net numbers) u moved room fit fits s r go =
    let nets = nets_of k.setting in
    let n = s.answer in
    let len : length (numbers ++ n ∷ []) ≡ length numbers + 1 = length-append numbers (n ∷ []) in
    let z = loaded_rest room k.setting.design (list_of lists net) net (numbers ++ n ∷ []) in
    let x = fits.more in
    let y = fit net in
    let Q : Task → Type 0 = λ v. rest room v < rest room (loading net numbers) in
    same_place room nets l.drawn m.drawn (loading net numbers) u (ap (λ (x : Knowledge). x.drawn) s.acts.after) (subst Q (sym s.next) (omega (arith, len, z, x, y)))
step_nearer lists order k l m (publishing net pair place) u moved room fit fits s r go =
    let nets = nets_of k.setting in
    let x = fits.more in
    let Q : Task → Type 0 = λ v. rest room v < rest room (publishing net pair place) in
    same_place room nets l.drawn m.drawn (publishing net pair place) u (ap (λ (x : Knowledge). x.drawn) s.acts.after) (subst Q (sym s.next) (elim (cases_lt (place + 1) 8) [
      | inl p ↦ rw (below (place + 1) 8 p) (omega arith)
      | inr p ↦ rw (not_below (place + 1) 8 p) (omega arith)
    ]))
step_nearer lists order k l m done u moved room fit fits s r go = absurd (go tt)

-- ---- with the design of the code
module _ (lists : List (List NetId)) (d : Parts) (order : List ℕ) (k l m : Knowledge) (t u : Task) (moved : Moved) (own : k.setting.design ≡ d) (fits : Fits l lists t)
    (s : Steps d lists order l t moved m u) (r : Running lists order k l t) where
  pub runs_on : IsSound d → AreReadLists d lists → IsOrder d.nets order → Running lists order k m u
  runs_on sound are o =
      let P : Parts → Type 0 = λ x. IsSound x → AreReadLists x lists → IsOrder x.nets order → Steps x lists order l t moved m u → Running lists order k m u in
      subst P own (λ v a b w. run_step lists order k l m t u moved v a b fits w r) sound are o s

  pub nearer_on : (room after : ℕ) → after ≡ room → ((net : ℕ) → 8 * length (list_of lists net) ≤ room) → (IsDone t → ⊥) → ahead after (length d.nets) m.drawn u < ahead room (length d.nets) l.drawn t
  nearer_on room after same fit go =
      let P : Parts → Type 0 = λ x. Steps x lists order l t moved m u → ahead room (length x.nets) m.drawn u < ahead room (length x.nets) l.drawn t in
      rw same (subst P own (λ w. step_nearer lists order k l m t u moved room fit fits w r go) s)
