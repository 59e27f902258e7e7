-- In a tree each path is the walk's.
use Rattle.std.proofs.Common.{◌≡◌, ◌≢◌, ℕ, zero, suc, ◌+◌, ◌*◌, ◌<◌, ◌≤◌, Bool, true, false, cond, eqb, ltb, ◌||◌, List, [], ◌∷◌, length, map, get_or, Some, refl, sym, ap, ◌∙◌, subst, arith, inl, inr, ◌⊎◌}
use Rattle.std.specs.Prelude.{ℤ, pos}
use Rattle.std.specs.Int.RustNames.{unsigned_abs}
use Rattle.std.specs.List.{slice_get, list_any}
use Rattle.std.proofs.lemmas.Bool.{cases_lt, false≢true, or_left, or_right, or_cases, cases_Bool}
use Rattle.std.proofs.lemmas.Bool.Decides.{nat_tests}
use Rattle.std.proofs.lemmas.List.{get_or-map}
use Rattle.std.proofs.lemmas.Option.{slice_get-get_or, slice_get_past, get_or_from_slice_get}
use Rattle.elmore_tree.specs.declared.part.Resistor.{Resistor}
use Rattle.elmore_tree.specs.declared.part.Tap.{Tap}
use Rattle.elmore_tree.specs.declared.walk.Step.{Step}
use Rattle.elmore_tree.specs.declared.form.WireForm.{WireForm}
use Rattle.elmore_tree.specs.Trees.{TreeParts, IsSoundTree, ground_at, ground_sum, is_needed}
use Rattle.elmore_tree.specs.Gathering.{IsTreeWalk}
use Rattle.elmore_tree.specs.Forms.{IsFormOf, IsAcceptedTree}
use Rattle.elmore_tree.specs.Paths.{Joins, is_on, IsPath, IsJoined, is_in, resistors_in}
use Rattle.elmore_tree.specs.Sums.{shared, sum_below, base_of, coefficient_of, ArePaths, SinkSums, sink_sums}
use Rattle.elmore_tree.specs.Walks.{is_visited, IsGrown, IsWalked, path_of}
use Rattle.elmore_tree.proofs.Bools.{not_both, eqb_same, eqb_apart, eqb_is}
use Rattle.elmore_tree.proofs.SumLaws.{IsOnce, below_same, below_bumped}
use Rattle.elmore_tree.proofs.PathLaws.{element_at, path_of_end, path_root, path_is, joined_visited, take_whole, path_kept}
use Rattle.elmore_tree.proofs.GatherLaws.{joined_there, resistor_apart}
use Rattle.elmore_tree.proofs.FormLaws.{below_list, no_tap, needed_tap, needed_sink, part_is, not_meshed}

-- ---- different numbers that pass a test are no more than all that pass it
several : (f : ℕ → ℕ) (n : ℕ) (js : List ℕ) → IsOnce js → ((j : ℕ) → is_on js j ≡ true → (j < n) × (f j ≡ 1)) → length js ≤ sum_below f n
several f n [] once h = omega arith
several f n (j ∷ js) once h =
    let here = h j (or_left (eqb j j) (is_on js j) (eqb_same j)) in
    let g : ℕ → ℕ = λ k. cond (eqb k j) 0 (f k) in
    let gone : g j ≡ 0 = ap (λ b. cond b 0 (f j)) (eqb_same j) in
    let bumped : sum_below f n ≡ sum_below g n + 1 = below_bumped g f n j 1 here.0 (omega (arith, gone, here.1)) (λ k ne. sym (ap (λ b. cond b 0 (f k)) (eqb_apart k j ne))) in
    let rest : length js ≤ sum_below g n = several g n js once.1 (λ k on.
    let old = h k (or_right (eqb j k) (is_on js k) on) in
    let ne : k ≢ j = λ e. not_both {A = ⊥} (is_on js j) (ap (is_on js) (sym e) ∙ on) once.0 in
    (old.0, ap (λ b. cond b 0 (f k)) (eqb_apart k j ne) ∙ old.1)) in
    omega (arith, bumped, rest)

-- the numbers of the resistors of the first steps
abbrev pub gone_by : List Step → ℕ → List ℕ
gone_by steps zero = []
gone_by steps (suc i) = (get_or steps i (record { from = 0; resistor = 0; to = 0 })).resistor ∷ gone_by steps i

both_ends : (rs : List Resistor) (j a b c d : ℕ) → Joins rs j a b → Joins rs j c d → ((a ≡ c) × (b ≡ d)) ⊎ ((a ≡ d) × (b ≡ c))
both_ends rs j a b c d one two =
    elim (cases_lt j (length rs)) [
      | inl lt ↦
          let r = element_at rs j lt in
          let first : ((r.0.a ≡ a) × (r.0.b ≡ b)) ⊎ ((r.0.a ≡ b) × (r.0.b ≡ a)) = rw r.1 at one in
          let second : ((r.0.a ≡ c) × (r.0.b ≡ d)) ⊎ ((r.0.a ≡ d) × (r.0.b ≡ c)) = rw r.1 at two in
          elim first [
            | inl w ↦ elim second [ inl v ↦ inl (sym w.0 ∙ v.0, sym w.1 ∙ v.1) | inr v ↦ inr (sym w.0 ∙ v.0, sym w.1 ∙ v.1) ]
            | inr w ↦ elim second [ inl v ↦ inr (sym w.1 ∙ v.1, sym w.0 ∙ v.0) | inr v ↦ inl (sym w.1 ∙ v.1, sym w.0 ∙ v.0) ]
          ]
      | inr past ↦ absurd (rw (slice_get_past rs j past) at one)
    ]

map_same : {X Y : Type 0} (f h : X → Y) (d : X) (xs : List X) → ((i : ℕ) → i < length xs → f (get_or xs i d) ≡ h (get_or xs i d)) → map f xs ≡ map h xs
map_same f h d [] same = refl
map_same f h d (x ∷ xs) same =
    let first : f x ≡ h x = same 0 (omega arith) in
    let rest : map f xs ≡ map h xs = map_same f h d xs (λ i lt. same (suc i) (omega arith)) in
    ap (λ y. y ∷ map f xs) first ∙ ap (λ ys. h x ∷ ys) rest

module _ (t : TreeParts) (steps : List Step) (g : IsGrown t steps) (sound : IsSoundTree t) where
  length_gone : (i : ℕ) → length (gone_by steps i) ≡ i
  length_gone zero = refl
  length_gone (suc i) = let rest = length_gone i in omega (arith, rest)

  by_step : (i j : ℕ) → i ≤ length steps → is_on (gone_by steps i) j ≡ true → (m : ℕ) × (s : Step) × (m < i) × (slice_get steps m ≡ Some s) × (s.resistor ≡ j)
  by_step zero j le h = absurd (false≢true h)
  by_step (suc i) j le h =
      let d : Step = record { from = 0; resistor = 0; to = 0 } in
      let s : Step = get_or steps i d in
      elim (or_cases (eqb s.resistor j) (is_on (gone_by steps i) j) h) [
        | inl here ↦ (i, s, omega arith, slice_get-get_or steps i d (omega arith), eqb_is s.resistor j here)
        | inr earlier ↦ let found = by_step i j (omega arith) earlier in let lt = found.2 in (found.0, found.1, omega arith, found.3, found.4)
      ]

  gone_once : (i : ℕ) → i ≤ length steps → IsOnce (gone_by steps i)
  gone_once zero le = tt
  gone_once (suc i) le =
      let d : Step = record { from = 0; resistor = 0; to = 0 } in
      let s : Step = get_or steps i d in
      let at : slice_get steps i ≡ Some s = slice_get-get_or steps i d (omega arith) in
      let fresh : is_on (gone_by steps i) s.resistor ≡ false = elim (cases_Bool (is_on (gone_by steps i) s.resistor)) [
        | inl on ↦
            let found = by_step i s.resistor (omega arith) on in
            let apart = resistor_apart t steps g sound found.0 i found.1 s found.2 found.3 at in
            not_both (eqb s.resistor found.1.resistor) (ap (eqb s.resistor) found.4 ∙ eqb_same s.resistor) apart
        | inr off ↦ off
      ] in
      (fresh, gone_once i (omega arith))

abbrev pub passing : List Bool → Resistor → ℕ
passing reached r = cond (is_in reached r.a) 1 0

abbrev pub sums_by : ℤ → List ℤ → SinkSums
sums_by base coefs = record { base = base; coefs = coefs }

module _ (t : TreeParts) (reached : List Bool) (steps : List Step) (sound : IsSoundTree t) (w : IsWalked t reached steps) (tree : resistors_in reached t.resistors ≤ length steps) where
  passes : (j a b : ℕ) → Joins t.resistors j a b → is_visited t steps a ≡ true → (j < length t.resistors) × (get_or (map (passing reached) t.resistors) j 0 ≡ 1)
  passes j a b joins visited =
      let there = joined_there t j a b sound joins in
      let r = element_at t.resistors j there.2 in
      let ends : ((r.0.a ≡ a) × (r.0.b ≡ b)) ⊎ ((r.0.a ≡ b) × (r.0.b ≡ a)) = rw r.1 at joins in
      let marked : is_in reached r.0.a ≡ true = elim ends [
        | inl v ↦ ap (is_in reached) v.0 ∙ (w.marks a ∙ visited)
        | inr v ↦ ap (is_in reached) v.0 ∙ (w.spread.each a visited).each j b joins
      ] in
      let read : get_or (map (passing reached) t.resistors) j 0 ≡ (passing reached) (get_or t.resistors j r.0) = get_or-map (passing reached) t.resistors j r.0 0 there.2 in
      (there.2, read ∙ (ap (passing reached) (get_or_from_slice_get t.resistors j r.0 r.0 r.1) ∙ ap (λ b. cond b 1 0) marked))

  -- each resistor of the part was gone by
  every_gone : (j a b : ℕ) → Joins t.resistors j a b → is_visited t steps a ≡ true → is_on (gone_by steps (length steps)) j ≡ true
  every_gone j a b joins visited =
      let n : ℕ = length steps in
      let js : List ℕ = gone_by steps n in
      elim (cases_Bool (is_on js j)) [
        | inl on ↦ on
        | inr off ↦
            let f : ℕ → ℕ = λ k. get_or (map (passing reached) t.resistors) k 0 in
            let many : length (j ∷ js) ≤ sum_below f (length t.resistors) = several f (length t.resistors) (j ∷ js) (off, gone_once t steps w.grown sound n (omega arith)) (λ k on.
            elim (or_cases (eqb j k) (is_on js k) on) [
              | inl same ↦ let P : ℕ → Type 0 = λ i. (i < length t.resistors) × (f i ≡ 1) in subst P (eqb_is j k same) (passes j a b joins visited)
              | inr other ↦
                  let found = by_step t steps w.grown sound n k (omega arith) other in
                  let s = found.1 in
                  let still : is_visited t steps s.from ≡ true =
                  ap (λ ss. is_visited t ss s.from) (sym (take_whole steps)) ∙ (path_kept t steps w.grown found.0 n s.from (omega (arith, found.2)) (omega arith) (w.grown.from found.0 s found.3)).1 in
                  let P : ℕ → Type 0 = λ i. (i < length t.resistors) × (f i ≡ 1) in
                  subst P found.4 (passes s.resistor s.from s.to (w.grown.joins found.0 s found.3) still)
            ]) in
            let all : sum_below f (length t.resistors) ≡ resistors_in reached t.resistors = below_list (passing reached) t.resistors in
            let size = length_gone t steps w.grown sound n in
            absurd (omega (arith, many, all, size, tree))
      ]

  pub path_unique : (path : List ℕ) (k : ℕ) → IsPath t k path → path ≡ path_of steps k
  path_unique [] k h = sym (ap (path_of steps) h ∙ path_root t steps w.grown (length steps) (omega arith))
  path_unique (j ∷ before) k h =
      let from : ℕ = h.0 in
      let joins : Joins t.resistors j from k = h.1 in
      let rest : before ≡ path_of steps from = path_unique before from h.3 in
      let visited : is_visited t steps from ≡ true = joined_visited t reached steps w before from h.3 in
      let found = by_step t steps w.grown sound (length steps) j (omega arith) (every_gone j from k joins visited) in
      let s = found.1 in
      let P : ℕ → Type 0 = λ i. Joins t.resistors i s.from s.to in
      let its : Joins t.resistors j s.from s.to = subst P found.4 (w.grown.joins found.0 s found.3) in
      let end : path_of steps s.to ≡ s.resistor ∷ path_of steps s.from = path_of_end t steps w.grown found.0 s found.3 in
      elim (both_ends t.resistors j from k s.from s.to joins its) [
        | inl e ↦ ap (λ p. j ∷ p) (rest ∙ ap (path_of steps) e.0) ∙ (ap (λ i. i ∷ path_of steps s.from) (sym found.4) ∙ (sym end ∙ ap (path_of steps) (sym e.1)))
        | inr e ↦
            let on : is_on before j ≡ true = ap (λ p. is_on p j) (rest ∙ (ap (path_of steps) e.0 ∙ end)) ∙ or_left (eqb s.resistor j) (is_on (path_of steps s.from) j) (ap (λ i. eqb i j) found.4 ∙ eqb_same j) in
            not_both (is_on before j) on h.2
      ]

  module _ (paths : ℕ → List ℕ) (are : ArePaths t paths) (all : (k : ℕ) → is_needed t k ≡ true → IsJoined t k) where
    agree : (k : ℕ) → is_needed t k ≡ true → paths k ≡ path_of steps k
    agree k need = path_unique (paths k) k (are.each k (all k need))

    same_base : (p : ℕ) → is_needed t p ≡ true → base_of t paths p ≡ base_of t (path_of steps) p
    same_base p need = below_same (λ k. shared t (paths p) (paths k) * ground_at t k) (λ k. shared t (path_of steps p) (path_of steps k) * ground_at t k) t.nodes (λ k lt.
        elim (cases_Bool (ltb 0 (ground_at t k))) [
          | inl some ↦
              let here = agree k (or_left (ltb 0 (ground_at t k)) (list_any (λ q. eqb q k) t.sinks || list_any (λ (tap : Tap). eqb tap.node k) t.taps) some) in
              ap (λ q. shared t q (paths k) * ground_at t k) (agree p need) ∙ ap (λ q. shared t (path_of steps p) q * ground_at t k) here
          | inr none ↦
              let zero_cap : ground_at t k ≡ 0 = not_more (ground_at t k) none in
              ap (λ n. shared t (paths p) (paths k) * n) zero_cap ∙ (no_product (shared t (paths p) (paths k)) (shared t (path_of steps p) (path_of steps k)) ∙ sym (ap (λ n. shared t (path_of steps p) (path_of steps k) * n) zero_cap))
        ])
      where
        not_more : (n : ℕ) → ltb 0 n ≡ false → n ≡ 0
        not_more n h = grind (arith, nat_tests)

        no_product : (a b : ℕ) → a * 0 ≡ b * 0
        no_product a b = omega arith

    same_sums : (p : ℕ) → is_needed t p ≡ true → sink_sums t paths p ≡ sink_sums t (path_of steps) p
    same_sums p need =
        let base : pos (base_of t paths p) ≡ pos (base_of t (path_of steps) p) = ap pos (same_base p need) in
        let coefs : map (λ tap. pos (coefficient_of t paths p tap)) t.taps ≡ map (λ tap. pos (coefficient_of t (path_of steps) p tap)) t.taps =
        map_same (λ (tap : Tap). pos (coefficient_of t paths p tap)) (λ (tap : Tap). pos (coefficient_of t (path_of steps) p tap)) no_tap t.taps (λ i lt.
        let k : ℕ = (get_or t.taps i no_tap).node in
        ap (λ q. pos (shared t q (paths k) * unsigned_abs (get_or t.taps i no_tap).cap)) (agree p need)
        ∙ ap (λ q. pos (shared t (path_of steps p) q * unsigned_abs (get_or t.taps i no_tap).cap)) (agree k (needed_tap t i no_tap lt))) in
        ap (λ z. sums_by z (map (λ tap. pos (coefficient_of t paths p tap)) t.taps)) base ∙ ap (sums_by (pos (base_of t (path_of steps) p))) coefs

    pub same_forms : map (sink_sums t paths) t.sinks ≡ map (sink_sums t (path_of steps)) t.sinks
    same_forms = map_same (sink_sums t paths) (sink_sums t (path_of steps)) 0 t.sinks (λ i lt. same_sums (get_or t.sinks i 0) (needed_sink t i lt))

module _ (t : TreeParts) (steps : List Step) (w : IsTreeWalk t steps) where
  joined : (k : ℕ) → is_needed t k ≡ true → IsJoined t k
  joined k h = ((part_is t w.reached steps w.walked).each k).0 (w.all.each k (w.each k ∙ h))

  -- the wire is a tree that reaches all
  pub accepted_is : IsAcceptedTree t
  accepted_is = record { tree = not_meshed t w.reached steps w.walked w.tree; reached = joined }

  pub form_is : (form : WireForm) → form.load ≡ pos (ground_sum t.ground) → form.sinks ≡ map (sink_sums t (path_of steps)) t.sinks → IsFormOf t form
  form_is form load sinks = record {
    tree = not_meshed t w.reached steps w.walked w.tree;
    reached = joined;
    once = λ k p q is_p is_q. path_unique t w.reached steps w.sound w.walked w.tree p k is_p ∙ sym (path_unique t w.reached steps w.sound w.walked w.tree q k is_q);
    paths = (
      path_of steps,
      record { each = λ k j. path_is t steps w.walked.grown (length steps) k (omega arith) (ap (λ ss. is_visited t ss k) (take_whole steps) ∙ joined_visited t w.reached steps w.walked j.0 k j.1) },
    );
    sums = λ paths are. record { load = load; sinks = sinks ∙ sym (same_forms t w.reached steps w.sound w.walked w.tree paths are joined) };
  }
