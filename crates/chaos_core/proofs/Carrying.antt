-- A round carries the words at least as far as the operator does.
use Rattle.std.proofs.Common.{◌≡◌, ℕ, zero, suc, ◌+◌, ◌*◌, ◌/◌, ◌%◌, ◌<◌, inl, inr, refl, sym, ap, subst, ◌∙◌, List, [], ◌∷◌, length, get_or, replicate, arith}
use Rattle.std.specs.Prelude.{slice_index}
use Rattle.std.specs.List.{All}
use Rattle.std.proofs.lemmas.Bool.{cases_lt}
use Rattle.std.proofs.lemmas.List.{length-replicate}
use Rattle.xt_model.specs.declared.net.NetId.{NetId}
use Rattle.xt_model.specs.declared.quad.Quad.{Quad}
use Rattle.xt_model.specs.Levels.{IsOrder}
use Rattle.xt_model.specs.Assign.{assigned, edge_of, side_of, words_of, quads_of}
use Rattle.xt_meaning.specs.Overlap.{overlap_answers}
use Rattle.xt_meaning.specs.Barrier.{IsBoundNoFurther}
use Rattle.xt_meaning.specs.Words.{bounds_in, onward, AreNoFurther}
use Rattle.xt_meaning.proofs.Existence.{past_bottom}
use Rattle.xt_meaning.proofs.Passes.{all_turned}
use Rattle.xt_meaning.proofs.Steps.{bound_refl}
use Rattle.xt_meaning.proofs.Numbers.{past_numbers}
use Rattle.net_eval.specs.ReadLists.{AreReadLists}
use Rattle.chaos_core.specs.declared.setting.Setting.{Setting}
use Rattle.chaos_core.specs.Boards.{nets_of, Knowledge}
use Rattle.chaos_core.specs.Tasks.{Task, idle, loading, publishing, done}
use Rattle.chaos_core.specs.Steps.{Fits}
use Rattle.chaos_core.specs.Runs.{IsDone, HasPassed}
use Rattle.chaos_core.specs.Memories.{AreKept}
use Rattle.chaos_core.specs.Machine.{State, task_in, known_in}
use Rattle.chaos_core.specs.Rounds.{Play, ArePicks, Pause, begun, IsRound, HasCarried}
use Rattle.chaos_core.proofs.Sight.{are_refl}
use Rattle.chaos_core.proofs.Running.{IsAt, IsBusy}
use Rattle.chaos_core.proofs.Passing.{HasGone, gone_on}

-- ---- the beginning
-- what holds of an idle worker and of one that is done holds of each of several idle workers
idle_each : (P : Task → Type 0) (n w : ℕ) → P idle → P done → P (get_or (replicate n idle) w done)
idle_each P zero w i d = d
idle_each P (suc n) zero i d = i
idle_each P (suc n) (suc w) i d = idle_each P n w i d

idle_there : (n w : ℕ) → w < n → IsDone (get_or (replicate n idle) w done) → ⊥
idle_there zero w h dn = omega arith
idle_there (suc n) zero h dn = dn
idle_there (suc n) (suc w) h dn = idle_there n w (omega arith) dn

pub begins : (a : Setting) (lists : List (List NetId)) (order : List ℕ) (workers : ℕ) (words : List ℕ) → AreKept a words → HasGone a lists order (begun workers words) (begun workers words)
begins a lists order workers words kept =
    let s = begun workers words in
    let k = known_in a s in
    record {
      good = record { words = kept; tasks = λ w. idle_each (Fits k lists) workers w tt tt };
      count = refl;
      onward = are_refl a.way (bounds_in words);
      places = λ n lt in_nets. absurd (omega (arith, lt));
      busy = λ w. idle_each (IsBusy lists k k) workers w tt tt;
      ended = λ w there dn. let c : length (replicate workers idle) ≡ workers = length-replicate workers idle in absurd (idle_there workers w (omega (arith, c, there)) dn);
    }

-- ---- the picks
pub picks_gone : (a : Setting) (lists : List (List NetId)) (order : List ℕ) (before : State) (count : ℕ) (p q : Play) → AreReadLists a.design lists → IsOrder a.design.nets order
    → ArePicks a lists order count p q → HasGone a lists order before p.state → HasGone a lists order before q.state
picks_gone a lists order before zero p q are o e gone = subst (λ (x : Play). HasGone a lists order before x.state) (sym e) gone
picks_gone a lists order before (suc n) p q are o h gone =
    let m = h.0 in
    let so_far = picks_gone a lists order before n p m are o h.1 gone in
    let one = gone_on a lists order before m.state are o so_far h.2.pick h.2.picked.inside in
    subst (HasGone a lists order before) (sym h.2.state) one

-- ---- all words
-- where the words of every net are at or past what the operator makes of the words before, all words are
pub all_words : (k l : Knowledge) → length l.seen ≡ 8 * nets_of k.setting → ((net : ℕ) → net < nets_of k.setting → HasPassed k l net 8)
    → AreNoFurther k.setting.way (onward k.setting.design (bounds_in k.seen)) (bounds_in l.seen)
all_words k l count passed word =
    let a = k.setting in
    let d = a.design in
    let f = bounds_in k.seen in
    let W = quads_of f in
    let net = word / 8 in
    elim (cases_lt net (nets_of a)) [
      | inl p ↦
          let i = word % 8 in
          let h = passed net p i (omega arith) in
          let e : 8 * net + i ≡ word = omega arith in
          let par : i % 2 ≡ word % 2 = omega arith in
          subst (λ s. IsBoundNoFurther a.way s (onward d f word) (bounds_in l.seen word)) par
          (subst (λ w. IsBoundNoFurther a.way (i % 2) (onward d f w) (bounds_in l.seen w)) e h)
      | inr p ↦
          let none : onward d f word ≡ words_of (assigned []) word = ap (λ (q : Quad). side_of q (word % 4)) (past_bottom d (overlap_answers d.period W) W net (edge_of (word / 4 % 2)) p) in
          let past : bounds_in l.seen word ≡ words_of (assigned []) word = past_numbers l.seen word (omega (arith, count, p)) in
          subst (λ b. IsBoundNoFurther a.way (word % 2) (onward d f word) b) (none ∙ sym past) (bound_refl a.way (word % 2) (onward d f word))
    ]

-- ---- the end
done_each : (tasks : List Task) → All IsDone tasks → (w : ℕ) → IsDone (get_or tasks w done)
done_each [] all w = tt
done_each (t ∷ tasks) all zero = all 0 done (omega arith)
done_each (t ∷ tasks) all (suc w) = done_each tasks (λ k d h. all (suc k) d (omega arith)) w

not_at : (t : Task) (net : ℕ) → IsDone t → IsAt t net → ⊥
not_at idle net dn at = dn
not_at (loading own numbers) net dn at = dn
not_at (publishing own pair place) net dn at = dn
not_at done net dn at = at

module _ (a : Setting) (lists : List (List NetId)) (order : List ℕ) (before now : State) (o : IsOrder a.design.nets order) (gone : HasGone a lists order before now) (some : 0 < length now.tasks)
    (all : All IsDone now.tasks) where
  net_passed : (net : ℕ) → net < nets_of a → HasPassed (known_in a before) (known_in a now) net 8
  net_passed net h =
      let drawn = gone.ended 0 some (all 0 done some) in
      let t = all_turned a.design.nets o.0 order o.2 net h in
      let c = o.2.count in
      let b = t.before in
      elim (gone.places t.place (omega (arith, drawn, c, b)) (omega (arith, c, b))) [
        | inl p ↦ absurd (not_at (task_in now p.0) (slice_index order t.place) (done_each now.tasks all p.0) p.1)
        | inr p ↦ subst (λ v. HasPassed (known_in a before) (known_in a now) v 8) t.there p
      ]

  pub all_passed : AreNoFurther a.way (onward a.design (bounds_in before.words)) (bounds_in now.words)
  all_passed = all_words (known_in a before) (known_in a now) gone.good.words.seen.count net_passed

pub round_carries : (a : Setting) (lists : List (List NetId)) (order : List ℕ) (workers : ℕ) (p q : Pause) → 0 < workers → AreReadLists a.design lists → IsOrder a.design.nets order → AreKept a p.words
    → IsRound a lists order workers p q → HasCarried a p.words q.words
round_carries a lists order workers p q some are o kept round =
    let before = begun workers p.words in
    let first : Play = record { source = p.source; state = before } in
    let last : Play = record { source = q.source; state = round.last } in
    let gone = picks_gone a lists order before round.count first last are o round.picks (begins a lists order workers p.words kept) in
    let c : length (replicate workers idle) ≡ workers = length-replicate workers idle in
    let n = gone.count in
    let past = all_passed a lists order before round.last o gone (omega (arith, c, n, some)) round.all_done in
    subst (HasCarried a p.words) (sym round.words) (record { kept = gone.good.words; onward = gone.onward; past = past })
