-- A board as it is opened meets the rule.
use Rattle.std.proofs.Common.{◌≡◌, ◌⊎◌, ℕ, zero, suc, ◌<◌, ◌≤◌, inl, inr, refl, subst, List, [], ◌∷◌, ◌++◌, length, replicate, Contains, get_or, arith}
use Rattle.std.specs.List.{range_with_len}
use Rattle.std.proofs.lemmas.Bool.{cases_lt}
use Rattle.std.proofs.lemmas.Option.{none-some}
use Rattle.std.proofs.lemmas.List.{length-replicate}
use Rattle.std.proofs.lemmas.List.FromFn.{length-range_with_len, get_or-range_with_len}
use Rattle.atomic_table.specs.Table.{opening}
use Rattle.xt_model.specs.declared.direction.Direction.{Direction}
use Rattle.xt_model.specs.declared.net.NetId.{NetId}
use Rattle.xt_model.specs.declared.quad.Pair.{Pair}
use Rattle.xt_model.specs.Parts.{Parts}
use Rattle.xt_meaning.specs.Words.{numbers_of}
use Rattle.net_eval.specs.ReadLists.{AreReadLists}
use Rattle.chaos_core.specs.Boards.{nets_of}
use Rattle.chaos_core.specs.Memories.{Memory, AreKept, IsKept}
use Rattle.window_words.proofs.Opening.{setting_at, memory_at}
use Rattle.window_words.proofs.Opening.{opened as opened_below}
use Rattle.dirty_words.specs.declared.view.DirtyView.{DirtyView}
use Rattle.dirty_words.specs.Views.{Run, first_dirty}
use Rattle.dirty_words.specs.Rule.{SomeLive, mark_at, AreMarks, marked, FliesWell, KnowsClear, HasTaken, HasFound, AreTracked, KeptAt, KeptMarked}
use Rattle.dirty_words.proofs.Nets.{none_there, range_there}
use Rattle.dirty_words.proofs.Live.{only_one}

mark_there : (n m x : ℕ) → m < n → get_or (replicate n x) m 0 ≡ x
mark_there zero m x h = absurd (omega (arith, h))
mark_there (suc n) zero x h = refl
mark_there (suc n) (suc m) x h = mark_there n m x (omega (arith, h))

no_mark : (n m x : ℕ) → n ≤ m → get_or (replicate n x) m 0 ≡ 0
no_mark zero m x h = refl
no_mark (suc n) zero x h = absurd (omega (arith, h))
no_mark (suc n) (suc m) x h = no_mark n m x (omega (arith, h))

module _ (r : Run) (kept : AreKept r.setting (numbers_of r.setting.start)) (lists : AreReadLists r.setting.design r.lists) where
  abbrev marks' : List ℕ
  marks' = replicate (nets_of r.setting) 1

  abbrev views' : List DirtyView
  views' = first_dirty r ∷ []

  set_there : (m : ℕ) → m < nets_of r.setting → mark_at marks' m ≡ 1
  set_there m h = mark_there (nets_of r.setting) m 1 h

  inside : (m : ℕ) → mark_at marks' m ≡ 1 → m < nets_of r.setting
  inside m e = elim (cases_lt m (nets_of r.setting)) [
    | inl p ↦ p
    | inr p ↦ let z = no_mark (nets_of r.setting) m 1 p in absurd (omega (arith, z, e))
  ]

  range_inside : (m : ℕ) → Contains (range_with_len 0 (nets_of r.setting)) m → m < nets_of r.setting
  range_inside m c =
      let len = length-range_with_len 0 (nets_of r.setting) in
      let h = c.1 in
      let e = c.2 in
      let at = get_or-range_with_len 0 (nets_of r.setting) c.0 m (omega (arith, len, h)) in
      omega (arith, len, h, e, at)

  are_marks : AreMarks r.setting marks'
  are_marks = record {
    count = length-replicate (nets_of r.setting) 1;
    each = λ m. elim (cases_lt m (nets_of r.setting)) [
      | inl p ↦ let e = set_there m p in omega (arith, e)
      | inr p ↦ let e = no_mark (nets_of r.setting) m 1 p in omega (arith, e)
    ];
  }

  tracks : AreTracked marks' views'
  tracks = record {
    found = only_one (λ u. (m : ℕ) → Contains u.found m → (mark_at marks' m ≡ 1) ⊎ SomeLive views' (HasTaken m)) (first_dirty r) (λ m c. inl (set_there m (range_inside m c)));
    traced = λ m e.
        let found : SomeLive views' (HasFound m) = record { id = 0; view = first_dirty r; there = refl; live = tt; holds = record { first = refl; found = range_there (nets_of r.setting) m (inside m e) } } in
        inr (record { found = found; none = only_one (λ u. Contains u.taken m → ⊥) (first_dirty r) (none_there m) });
  }

  pub opened_at : KeptAt r (numbers_of r.setting.start) marks' 0 views'
  opened_at = record {
    below = opened_below r.setting (numbers_of r.setting.start ++ 0 ∷ []) kept refl;
    whole = lists;
    known = only_one (λ u. u.lists ≡ r.lists) (first_dirty r) refl;
    fits = are_marks;
    covered = λ m lt. marked (set_there m lt);
    flown = only_one (FliesWell r) (first_dirty r) (λ f e. absurd (none-some f e));
    clear = only_one (KnowsClear marks') (first_dirty r) (λ m c. absurd (none_there m c));
    tracked = tracks;
  }

  pub opened : (words : List ℕ) → words ≡ numbers_of r.setting.start ++ (marks' ++ 0 ∷ []) → KeptMarked r (opening words [] (first_dirty r))
  opened words is = record { now = numbers_of r.setting.start; marks = marks'; next = 0; words = is; rest = opened_at }

-- ---- in the words of the code
abbrev pub run_with : Parts → Direction → List Pair → List (List NetId) → Run
run_with d way start lists = record { setting = setting_at d way start; lists = lists }

pub opened_there : (m : Memory) (d e : Parts) (way : Direction) (start begin : List Pair) (lists same : List (List NetId)) (words : List ℕ) → m ≡ memory_at d way start → IsKept m → e ≡ d → begin ≡ start → same ≡ lists → AreReadLists d lists
    → words ≡ numbers_of start ++ (replicate (length d.nets) 1 ++ 0 ∷ []) → KeptMarked (run_with e way begin same) (opening words [] (first_dirty (run_with e way begin same)))
opened_there m d e way start begin lists same words is kept own from with are whole =
    let base : IsKept (memory_at d way start) = subst IsKept is kept in
    rw (own, from, with) (opened (run_with d way start lists) base.words are words whole)
