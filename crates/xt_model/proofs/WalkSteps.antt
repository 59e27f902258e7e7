-- The steps of a walk keep what it has found.
use Rattle.std.proofs.Common.{◌≡◌, ◌≢◌, ℕ, zero, suc, ◌+◌, ◌-◌, ◌<◌, ◌≤◌, ◌==◌, List, [], ◌∷◌, ◌++◌, length, map, take, drop, replicate, get_or, set, Some, refl, sym, ap, ◌∙◌, if◌then◌else◌, arith, inl, inr}
use Rattle.std.specs.List.{slice_get}
use Rattle.std.proofs.lemmas.Bool.{cases_lt, cases_eq}
use Rattle.std.proofs.lemmas.Bool.Decides.{nat_tests}
use Rattle.std.proofs.lemmas.List.{get_or_past, get_or_push, get_or_append_left, get_or-set_same, get_or-set_other, get_or-take, get_or-replicate, get_or-map, length-set, length-take-le, length-replicate, length_push, length-map}
use Rattle.std.proofs.lemmas.List.Sums.{sum_by-set, count_by-le-length}
use Rattle.std.proofs.lemmas.List.Elements.{All-contains}
use Rattle.std.proofs.lemmas.Option.{same_Some, slice_get_within, get_or_from_slice_get}
use Rattle.xt_model.specs.declared.net.TimingArc.{TimingArc}
use Rattle.xt_model.specs.declared.net.Net.{Net}
use Rattle.xt_model.specs.Levels.{greatest_of, level_from, AreLevels, Reads}
use Rattle.xt_model.specs.Loops.{IsInput, IsEndless, IsFirstEndless, IsFirstLoop}
use Rattle.xt_model.specs.Limits.{most_nets}
use Rattle.xt_model.specs.visits.Walk.{HaveLevels, IsWalk, zeros_in, last_of}
use Rattle.xt_model.proofs.ListLaws.{element_at}
use Rattle.xt_model.proofs.LevelLaws.{greatest_least, level_agrees, input_below}
use Rattle.xt_model.proofs.LoopLaws.{input_reads, endless_at}

-- one 0 less after a greater number is put in its place
pub zeros_filled : (ns : List ℕ) (i v : ℕ) → i < length ns → get_or ns i 0 ≡ 0 → 0 < v → zeros_in (set ns i v) + 1 ≡ zeros_in ns
zeros_filled ns i v lt zero_there more =
    let f : ℕ → ℕ = λ n. if n == 0 then 1 else 0 in
    let all : zeros_in (set ns i v) + f (get_or ns i 0) ≡ zeros_in ns + f v = sum_by-set f ns i v 0 lt in
    let one : f (get_or ns i 0) ≡ 1 = ap f zero_there in
    let none : f v ≡ 0 = grind (arith, nat_tests) in
    omega arith

-- no level, cursor or place yet
abbrev pub blank : ℕ → List ℕ
blank n = replicate n 0

still_zero : (n i : ℕ) → get_or (blank n) i 0 ≡ 0
still_zero n i =
    elim (cases_lt i n) [
      | inl lt ↦ get_or-replicate n i 0 0 lt
      | inr past ↦ get_or_past (blank n) i 0 (let len : length (blank n) ≡ n = length-replicate n 0 in omega arith)
    ]

-- a walk that has not begun
pub walk_begins : (nets : List Net) (n : ℕ) → n ≡ length nets → IsWalk nets (blank n) (blank n) (blank n) []
walk_begins nets n e =
    let len : length (blank n) ≡ n = length-replicate n 0 in
    record {
      levels_count = len ∙ e;
      cursors_count = len ∙ e;
      places_count = len ∙ e;
      inputs = λ i m at h. let none : get_or (blank n) i 0 ≡ 0 = still_zero n i in absurd (omega arith);
      each = λ i m at h. let none : get_or (blank n) i 0 ≡ 0 = still_zero n i in absurd (omega arith);
      most = λ i. let none : get_or (blank n) i 0 ≡ 0 = still_zero n i in omega (arith, count_by-le-length (λ m. m == 0) (blank n));
      cursors_within = λ i m at. let none : get_or (blank n) i 0 ≡ 0 = still_zero n i in omega arith;
      before = λ i m at. let none : get_or (blank n) i 0 ≡ 0 = still_zero n i in rw none (λ k d h. absurd (omega arith));
      there = λ k h. absurd (omega arith);
      waits = λ k h. absurd (omega arith);
      place = λ k h. absurd (omega arith);
      begins = λ i h. absurd (omega arith);
      steps = λ k h. absurd (omega arith);
      on_path = λ i h z. let none : get_or (blank n) i 0 ≡ 0 = still_zero n i in absurd (omega arith);
      stands = λ i h z. let none : get_or (blank n) i 0 ≡ 0 = still_zero n i in absurd (omega arith);
    }

-- a net without a level is no input that has one
levels_kept : (levels : List ℕ) (net v : ℕ) (arcs : List TimingArc) → get_or levels net 0 ≡ 0 → HaveLevels levels arcs → HaveLevels (set levels net v) arcs
levels_kept levels net v arcs unknown known = λ k d h.
    let here : 0 < get_or levels (get_or arcs k d).from.0 0 = known k d h in
    let ne : (get_or arcs k d).from.0 ≢ net = λ e. (let z : get_or levels (get_or arcs k d).from.0 0 ≡ 0 = rw e unknown in absurd (omega arith)) in
    let same : get_or (set levels net v) (get_or arcs k d).from.0 0 ≡ get_or levels (get_or arcs k d).from.0 0 = get_or-set_other levels net (get_or arcs k d).from.0 v 0 ne in
    omega arith

level_kept : (levels : List ℕ) (net v : ℕ) (arcs : List TimingArc) → get_or levels net 0 ≡ 0 → HaveLevels levels arcs → level_from (set levels net v) arcs ≡ level_from levels arcs
level_kept levels net v arcs unknown known = level_agrees (set levels net v) levels arcs (λ k d h.
    let here : 0 < get_or levels (get_or arcs k d).from.0 0 = known k d h in
    let ne : (get_or arcs k d).from.0 ≢ net = λ e. (let z : get_or levels (get_or arcs k d).from.0 0 ≡ 0 = rw e unknown in absurd (omega arith)) in
    get_or-set_other levels net (get_or arcs k d).from.0 v 0 ne)

module _ (nets : List Net) (levels cursors places path : List ℕ) (w : IsWalk nets levels cursors places path) where
  -- a net that was never on the path is put at its end
  pub walk_enters : (net number : ℕ) → net < length nets → get_or levels net 0 ≡ 0 → get_or places net 0 ≡ 0
      → number ≡ length path + 1 → (length path ≡ 0 → (i : ℕ) → i < net → 0 < get_or levels i 0)
      → (0 < length path → IsInput nets (last_of path) (get_or cursors (last_of path) 0) net)
      → IsWalk nets levels cursors (set places net number) (path ++ net ∷ [])
  walk_enters net number there unknown fresh is lower input =
      let counts : length places ≡ length nets = w.places_count in
      let len : length (path ++ net ∷ []) ≡ length path + 1 = length_push path net in
      let before : (k : ℕ) → k < length path → get_or (path ++ net ∷ []) k 0 ≡ get_or path k 0 = λ k h. get_or_append_left path (net ∷ []) 0 k h in
      let at_end : get_or (path ++ net ∷ []) (length path) 0 ≡ net = get_or_push path net 0 (length path) refl in
      let placed : get_or (set places net number) net 0 ≡ length path + 1 = get_or-set_same places net number 0 (omega arith) ∙ is in
      let elsewhere : (i : ℕ) → i ≢ net → get_or (set places net number) i 0 ≡ get_or places i 0 = λ i ne. get_or-set_other places net i number 0 ne in
      record {
        levels_count = w.levels_count;
        cursors_count = w.cursors_count;
        places_count = length-set places net number ∙ counts;
        inputs = w.inputs;
        each = w.each;
        most = w.most;
        cursors_within = w.cursors_within;
        before = w.before;
        there = λ k h. elim (cases_lt k (length path)) [
          | inl lt ↦ let old = w.there k lt in let e = before k lt in omega arith
          | inr ge ↦ let e : k ≡ length path = omega arith in rw (e, at_end) there
        ];
        waits = λ k h. elim (cases_lt k (length path)) [
          | inl lt ↦ rw (before k lt) (w.waits k lt)
          | inr ge ↦ let e : k ≡ length path = omega arith in rw (e, at_end) unknown
        ];
        place = λ k h. elim (cases_lt k (length path)) [
          | inl lt ↦
              let old = w.place k lt in
              let ne : get_or path k 0 ≢ net = λ e. (let z : get_or places (get_or path k 0) 0 ≡ 0 = rw e fresh in absurd (omega arith)) in
              rw (before k lt) (elsewhere (get_or path k 0) ne ∙ old)
          | inr ge ↦ let e : k ≡ length path = omega arith in rw (e, at_end) placed
        ];
        begins = λ i h. elim (cases_lt 0 (length path)) [
          | inl some ↦ let e = before 0 some in w.begins i (omega arith)
          | inr none ↦ let e : length path ≡ 0 = omega arith in let new : get_or (path ++ net ∷ []) 0 0 ≡ net = rw e at at_end in lower e i (omega arith)
        ];
        steps = λ k h. elim (cases_lt (k + 1) (length path)) [
          | inl lt ↦ let lower : k < length path = omega arith in rw (before k lower, before (k + 1) lt) (w.steps k lt)
          | inr ge ↦
              let lower : k < length path = omega arith in
              let e : k + 1 ≡ length path = omega arith in
              let last : k ≡ length path - 1 = omega arith in
              rw (before k lower, e, at_end, last) (input (omega arith))
        ];
        on_path = λ i h z. elim (cases_eq i net) [
          | inl e ↦ rw e (omega arith)
          | inr ne ↦ let same = elsewhere i ne in let old = w.on_path i (omega arith) z in omega arith
        ];
        stands = λ i h z. elim (cases_eq i net) [
          | inl e ↦ let last : (length path + 1) - 1 ≡ length path = omega arith in rw (e, placed, last, at_end) refl
          | inr ne ↦
              let same = elsewhere i ne in
              let old_place : 0 < get_or places i 0 = omega arith in
              let within = w.on_path i old_place z in
              rw same (before (get_or places i 0 - 1) (omega arith) ∙ w.stands i old_place z)
        ];
      }

  -- the cursor of the net at the end of the path moves on over arcs whose inputs have levels
  pub walk_advances : (net to : ℕ) (n : Net) → net ≡ last_of path → 0 < length path → slice_get nets net ≡ Some n → to ≤ length n.arcs → HaveLevels levels (take to n.arcs)
      → IsWalk nets levels (set cursors net to) places path
  walk_advances net to n last some at within known =
      let counts : length cursors ≡ length nets = w.cursors_count in
      let lt : net < length nets = slice_get_within nets net n at in
      let moved : get_or (set cursors net to) net 0 ≡ to = get_or-set_same cursors net to 0 (omega arith) in
      let elsewhere : (i : ℕ) → i ≢ net → get_or (set cursors net to) i 0 ≡ get_or cursors i 0 = λ i ne. get_or-set_other cursors net i to 0 ne in
      record {
        levels_count = w.levels_count;
        cursors_count = length-set cursors net to ∙ counts;
        places_count = w.places_count;
        inputs = w.inputs;
        each = w.each;
        most = w.most;
        cursors_within = λ i m h. elim (cases_eq i net) [
          | inl e ↦
              let there : slice_get nets net ≡ Some m = rw e at h in
              let same : n ≡ m = same_Some n m (sym at ∙ there) in
              rw (e, moved, ← same) within
          | inr ne ↦ rw (elsewhere i ne) (w.cursors_within i m h)
        ];
        before = λ i m h. elim (cases_eq i net) [
          | inl e ↦
              let there : slice_get nets net ≡ Some m = rw e at h in
              let same : n ≡ m = same_Some n m (sym at ∙ there) in
              rw (e, moved, ← same) known
          | inr ne ↦ rw (elsewhere i ne) (w.before i m h)
        ];
        there = w.there;
        waits = w.waits;
        place = w.place;
        begins = w.begins;
        steps = λ k h.
            let other : get_or path k 0 ≢ net = λ e. (
            let here : get_or places (get_or path k 0) 0 ≡ k + 1 = w.place k (omega arith) in
            let there : get_or places (last_of path) 0 ≡ (length path - 1) + 1 = w.place (length path - 1) (omega arith) in
            let same : get_or places (get_or path k 0) 0 ≡ get_or places (last_of path) 0 = ap (λ m. get_or places m 0) (e ∙ last) in
            absurd (omega arith)) in
            rw (elsewhere (get_or path k 0) other) (w.steps k h);
        on_path = w.on_path;
        stands = w.stands;
      }

  -- the net at the end of the path gets its level and leaves
  pub walk_leaves : (net v : ℕ) (n : Net) (rest : List ℕ) → rest ≡ take (length path - 1) path → 0 < length path → net ≡ last_of path → slice_get nets net ≡ Some n → HaveLevels levels n.arcs → v ≡ level_from levels n.arcs
      → IsWalk nets (set levels net v) cursors places rest
  walk_leaves net v n rest rest_is some last at known is =
      let counts : length levels ≡ length nets = w.levels_count in
      let lt : net < length nets = slice_get_within nets net n at in
      let unknown : get_or levels net 0 ≡ 0 = rw last (w.waits (length path - 1) (omega arith)) in
      let its_place : get_or places net 0 ≡ (length path - 1) + 1 = rw last (w.place (length path - 1) (omega arith)) in
      let given : get_or (set levels net v) net 0 ≡ v = get_or-set_same levels net v 0 (omega arith) in
      let elsewhere : (i : ℕ) → i ≢ net → get_or (set levels net v) i 0 ≡ get_or levels i 0 = λ i ne. get_or-set_other levels net i v 0 ne in
      let fewer : zeros_in (set levels net v) + 1 ≡ zeros_in levels = zeros_filled levels net v (omega arith) unknown (omega arith) in
      let size : length (set levels net v) ≡ length levels = length-set levels net v in
      let zeros : zeros_in levels ≤ length levels = count_by-le-length (λ m. m == 0) levels in
      let length_left : length (take (length path - 1) path) ≡ length path - 1 = length-take-le (length path - 1) path (omega arith) in
      let left : (k : ℕ) → k < length path - 1 → get_or (take (length path - 1) path) k 0 ≡ get_or path k 0 = λ k h. get_or-take (length path - 1) path k 0 h in
      let others : (k : ℕ) → k < length path - 1 → get_or path k 0 ≢ net =
      λ k h e. (let here = w.place k (omega arith) in let same : get_or places (get_or path k 0) 0 ≡ get_or places net 0 = ap (λ m. get_or places m 0) e in absurd (omega arith)) in
      let high : v + zeros_in levels ≤ length levels + 1 = (
      let f : TimingArc → ℕ = λ a. get_or levels a.from.0 0 in
      let top : greatest_of (map f n.arcs) ≤ length levels - zeros_in levels =
      greatest_least (map f n.arcs) (length levels - zeros_in levels)
      (λ k h. let len : length (map f n.arcs) ≡ length n.arcs = length-map n.arcs f in
      let arc = element_at n.arcs k (omega arith) in
      let e : get_or (map f n.arcs) k 0 ≡ f (get_or n.arcs k arc.0) = get_or-map f n.arcs k arc.0 0 (omega arith) in
      let m : get_or levels (get_or n.arcs k arc.0).from.0 0 + zeros_in levels ≤ length levels = w.most (get_or n.arcs k arc.0).from.0 in
      omega arith) in
      omega arith) in
      rw rest_is (record {
        levels_count = size ∙ counts;
        cursors_count = w.cursors_count;
        places_count = w.places_count;
        inputs = λ i m h more. elim (cases_eq i net) [
          | inl e ↦
              let there : slice_get nets net ≡ Some m = rw e at h in
              let same : n ≡ m = same_Some n m (sym at ∙ there) in
              rw (← same) (levels_kept levels net v n.arcs unknown known)
          | inr ne ↦ let kept = elsewhere i ne in levels_kept levels net v m.arcs unknown (w.inputs i m h (omega arith))
        ];
        each = λ i m h more. elim (cases_eq i net) [
          | inl e ↦
              let there : slice_get nets net ≡ Some m = rw e at h in
              let same : n ≡ m = same_Some n m (sym at ∙ there) in
              rw (e, given, ← same) (is ∙ sym (level_kept levels net v n.arcs unknown known))
          | inr ne ↦
              let kept = elsewhere i ne in
              rw kept (w.each i m h (omega arith) ∙ sym (level_kept levels net v m.arcs unknown (w.inputs i m h (omega arith))))
        ];
        most = λ i. elim (cases_eq i net) [
          | inl e ↦ rw (e, given) (omega arith)
          | inr ne ↦ let kept = elsewhere i ne in let old = w.most i in omega arith
        ];
        cursors_within = w.cursors_within;
        before = λ i m h. levels_kept levels net v (take (get_or cursors i 0) m.arcs) unknown (w.before i m h);
        there = λ k h. rw (left k (omega arith)) (w.there k (omega arith));
        waits = λ k h. rw (left k (omega arith)) (elsewhere (get_or path k 0) (others k (omega arith)) ∙ w.waits k (omega arith));
        place = λ k h. rw (left k (omega arith)) (w.place k (omega arith));
        begins = λ i h.
            let some_left : 0 < length path - 1 = elim (cases_lt 0 (length path - 1)) [
              | inl lt ↦ lt
              | inr none ↦ let z : get_or (take (length path - 1) path) 0 0 ≡ 0 = get_or_past (take (length path - 1) path) 0 0 (omega arith) in absurd (omega arith)
            ] in
            let e : get_or (take (length path - 1) path) 0 0 ≡ get_or path 0 0 = left 0 some_left in
            let old : 0 < get_or levels i 0 = w.begins i (omega arith) in
            let ne : i ≢ net = λ e. (let z : get_or levels i 0 ≡ 0 = rw e unknown in absurd (omega arith)) in
            let kept = elsewhere i ne in
            omega arith;
        steps = λ k h. rw (left k (omega arith), left (k + 1) (omega arith)) (w.steps k (omega arith));
        on_path = λ i h z.
            let ne : i ≢ net = λ e. (let has : get_or (set levels net v) i 0 ≡ v = rw e given in absurd (omega arith)) in
            let kept = elsewhere i ne in
            let old : get_or places i 0 ≤ length path = w.on_path i h (omega arith) in
            let at_place : get_or path (get_or places i 0 - 1) 0 ≡ i = w.stands i h (omega arith) in
            elim (cases_eq (get_or places i 0) (length path)) [
              | inl e ↦ absurd (ne (sym at_place ∙ (ap (λ m. get_or path (m - 1) 0) e ∙ sym last)))
              | inr less ↦ omega arith
            ];
        stands = λ i h z.
            let ne : i ≢ net = λ e. (let has : get_or (set levels net v) i 0 ≡ v = rw e given in absurd (omega arith)) in
            let kept = elsewhere i ne in
            let old : get_or places i 0 ≤ length path = w.on_path i h (omega arith) in
            let at_place : get_or path (get_or places i 0 - 1) 0 ≡ i = w.stands i h (omega arith) in
            elim (cases_eq (get_or places i 0) (length path)) [
              | inl e ↦ absurd (ne (sym at_place ∙ (ap (λ m. get_or path (m - 1) 0) e ∙ sym last)))
              | inr less ↦ left (get_or places i 0 - 1) (omega arith) ∙ at_place
            ];
      })

  pub leaving_keeps : (net v : ℕ) → net ≡ last_of path → 0 < length path → (i : ℕ) → 0 < get_or levels i 0 → 0 < get_or (set levels net v) i 0
  leaving_keeps net v last some i known =
      let unknown : get_or levels net 0 ≡ 0 = rw last (w.waits (length path - 1) (omega arith)) in
      let ne : i ≢ net = λ e. (let z : get_or levels i 0 ≡ 0 = rw e unknown in absurd (omega arith)) in
      let same : get_or (set levels net v) i 0 ≡ get_or levels i 0 = get_or-set_other levels net i v 0 ne in
      omega arith

  pub last_is_there : (net : ℕ) → net ≡ last_of path → 0 < length path → net < length nets
  last_is_there net last some = rw last (w.there (length path - 1) (omega arith))

  pub greatest_fits : greatest_of levels ≤ length nets
  greatest_fits =
      let counts : length levels ≡ length nets = w.levels_count in
      greatest_least levels (length nets) (λ i h. omega (arith, w.most i))

  pub no_level_past : length nets ≤ most_nets → (i : ℕ) → get_or levels i 0 ≤ most_nets
  no_level_past few i = let counts : length levels ≡ length nets = w.levels_count in omega (arith, w.most i)

  -- a net with a level reads nets that have lesser ones
  level_falls : (a b : ℕ) → 0 < get_or levels a 0 → Reads nets a b → (0 < get_or levels b 0) × (get_or levels b 0 < get_or levels a 0)
  level_falls a b known r =
      let here : get_or levels a 0 ≡ level_from levels r.0.arcs = w.each a r.0 r.2 known in
      let below : get_or levels r.1.from.0 0 < level_from levels r.0.arcs = input_below levels r.0.arcs r.1 r.3 in
      let more : 0 < get_or levels r.1.from.0 0 = All-contains (λ m. 0 < get_or levels m.from.0 0) r.0.arcs r.1 (w.inputs a r.0 r.2 known) r.3 in
      let same : get_or levels r.1.from.0 0 ≡ get_or levels b 0 = ap (λ m. get_or levels m 0) r.4 in
      (omega arith, omega arith)

  levels_fall : (along : ℕ → ℕ) → ((i : ℕ) → Reads nets (along i) (along (i + 1))) → 0 < get_or levels (along 0) 0
      → (i : ℕ) → (0 < get_or levels (along i) 0) × (get_or levels (along i) 0 + i ≤ get_or levels (along 0) 0)
  levels_fall along reads known zero = (known, omega arith)
  levels_fall along reads known (suc i) =
      let so_far = levels_fall along reads known i in
      let next = level_falls (along i) (along (i + 1)) so_far.0 (reads i) in
      let e : i + 1 ≡ suc i = omega arith in
      let same : get_or levels (along (i + 1)) 0 ≡ get_or levels (along (suc i)) 0 = ap (λ m. get_or levels (along m) 0) e in
      (omega (arith, next.0), omega (arith, next.1, so_far.1))

  -- so no walk from it is endless
  not_endless : (net : ℕ) → 0 < get_or levels net 0 → IsEndless nets net → ⊥
  not_endless net known e =
      let start : get_or levels (e.0 0) 0 ≡ get_or levels net 0 = ap (λ m. get_or levels m 0) e.1 in
      let far = levels_fall e.0 e.2 (omega arith) (get_or levels net 0) in
      absurd (omega (arith, far.0, far.1))

  -- the input of the arc at a net's cursor is the first that is endless, if it is so
  first_endless : (a b : ℕ) → IsInput nets a (get_or cursors a 0) b → IsEndless nets b → IsFirstEndless nets a (get_or cursors a 0) b
  first_endless a b input endless = record {
    input = input;
    endless = endless;
    first = λ j c h i e.
        let known : HaveLevels levels (take (get_or cursors a 0) i.0.arcs) = w.before a i.0 i.2 in
        let within : j < length i.0.arcs = slice_get_within i.0.arcs j i.1 i.3 in
        let most : get_or cursors a 0 ≤ length i.0.arcs = w.cursors_within a i.0 i.2 in
        let size : length (take (get_or cursors a 0) i.0.arcs) ≡ get_or cursors a 0 = length-take-le (get_or cursors a 0) i.0.arcs most in
        let there : get_or (take (get_or cursors a 0) i.0.arcs) j i.1 ≡ i.1 = get_or-take (get_or cursors a 0) i.0.arcs j i.1 h ∙ get_or_from_slice_get i.0.arcs j i.1 i.1 i.3 in
        let level : 0 < get_or levels (get_or (take (get_or cursors a 0) i.0.arcs) j i.1).from.0 0 = known j i.1 (omega arith) in
        let same : get_or levels (get_or (take (get_or cursors a 0) i.0.arcs) j i.1).from.0 0 ≡ get_or levels c 0 = ap (λ (m : TimingArc). get_or levels m.from.0 0) there ∙ ap (λ m. get_or levels m 0) i.4 in
        not_endless c (omega arith) e;
  }

  -- the end of the path waits for a net that stands on it: from there on the path is the first loop
  pub walk_loops : (net : ℕ) → 0 < length path → IsInput nets (last_of path) (get_or cursors (last_of path) 0) net → get_or levels net 0 ≡ 0 → 0 < get_or places net 0
      → IsFirstLoop nets (drop (get_or places net 0 - 1) path)
  walk_loops net some input unknown on =
      let back = get_or places net 0 - 1 in
      let on_it : get_or places net 0 ≤ length path = w.on_path net on unknown in
      let stands : get_or path back 0 ≡ net = w.stands net on unknown in
      let within : back < length path = omega arith in
      let closes : IsInput nets (last_of path) (get_or cursors (last_of path) 0) (get_or path back 0) = rw stands input in
      let endless : (k : ℕ) → k < length path → IsEndless nets (get_or path k 0) =
      endless_at nets path back within (λ k h. input_reads nets _ _ _ (w.steps k h)) (input_reads nets _ _ _ closes) in (
        path,
        back,
        record {
          within = within;
          starts = record { endless = endless 0 some; least = λ m h e. not_endless m (w.begins m h) e };
          goes = λ i h. (get_or cursors (get_or path i 0) 0, first_endless (get_or path i 0) (get_or path (i + 1) 0) (w.steps i h) (endless (i + 1) h));
          once = λ i j lt h e.
              let here : get_or places (get_or path i 0) 0 ≡ i + 1 = w.place i (omega arith) in
              let there : get_or places (get_or path j 0) 0 ≡ j + 1 = w.place j h in
              let same : get_or places (get_or path i 0) 0 ≡ get_or places (get_or path j 0) 0 = ap (λ m. get_or places m 0) e in
              absurd (omega arith);
          returns = (get_or cursors (last_of path) 0, first_endless (last_of path) (get_or path back 0) closes (endless back within));
        },
        refl,
      )

  -- a walk with no net left has the levels
  pub walk_ends : ((i : ℕ) → i < length nets → 0 < get_or levels i 0) → AreLevels nets levels
  walk_ends all = record {
    count = w.levels_count;
    each = λ i n at. w.each i n at (all i (slice_get_within nets i n at));
  }
