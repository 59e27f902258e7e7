-- A walk keeps what it has found.
use Rattle.std.proofs.Common.{◌≡◌, ℕ, zero, suc, ◌+◌, ◌<◌, ◌≤◌, Bool, true, false, cond, eqb, ◌||◌, List, [], ◌∷◌, ◌++◌, length, take, get_or, set, replicate, Some, refl, sym, ap, ◌∙◌, subst, arith, inl, inr}
use Rattle.std.specs.List.{slice_get, sum_by}
use Rattle.std.proofs.lemmas.Bool.{cases_lt, cases_eq, false≢true, or_left, or_right, or_from, or_cases, or_parts, cases_Bool}
use Rattle.std.proofs.lemmas.List.{get_or-set_same, get_or-set_other, get_or-replicate, get_or_past, length-set, length-replicate, length_push, take-append-le}
use Rattle.std.proofs.lemmas.List.Sums.{sum_by-set, count_by-le-length}
use Rattle.std.proofs.lemmas.List.Folds.{sum_by-replicate}
use Rattle.std.proofs.lemmas.Option.{same_Some, slice_get_within, none-some}
use Rattle.std.proofs.Math.Seq.{take-append_seam}
use Rattle.elmore_tree.specs.declared.walk.Step.{Step}
use Rattle.elmore_tree.specs.Trees.{TreeParts}
use Rattle.elmore_tree.specs.Paths.{Joins, is_in, nodes_in}
use Rattle.elmore_tree.specs.Walks.{leads_to, is_visited, IsWalk, IsSpreadAt, IsSpread, IsWalked, node_at}
use Rattle.elmore_tree.proofs.OrderLaws.{stack_begins, stack_reaches, stack_goes}
use Rattle.elmore_tree.proofs.Bools.{or_past, or_assoc, or_nothing, not_both, eqb_same, eqb_apart, eqb_is, any_push, slice_get_push}

pub leads_push : (xs : List Step) (s : Step) (k : ℕ) → leads_to (xs ++ s ∷ []) k ≡ (leads_to xs k || eqb s.to k)
leads_push xs s k = any_push (λ (r : Step). eqb r.to k) xs s

pub visited_push : (t : TreeParts) (xs : List Step) (s : Step) (k : ℕ) → is_visited t (xs ++ s ∷ []) k ≡ (is_visited t xs k || eqb s.to k)
visited_push t xs s k = ap (λ b. eqb t.root k || b) (leads_push xs s k) ∙ or_assoc (eqb t.root k) (leads_to xs k) (eqb s.to k)

pub one_more_marked : (reached : List Bool) (k : ℕ) → k < length reached → get_or reached k false ≡ false → nodes_in (set reached k true) ≡ nodes_in reached + 1
one_more_marked reached k lt unmarked =
    let f : Bool → ℕ = λ m. cond m 1 0 in
    let all : sum_by f (set reached k true) + f (get_or reached k false) ≡ sum_by f reached + f true = sum_by-set f reached k true false lt in
    let none : f (get_or reached k false) ≡ 0 = ap f unmarked in
    omega arith

pub walk_begins : (t : TreeParts) (blank reached : List Bool) → t.root < t.nodes → blank ≡ replicate t.nodes false → reached ≡ set blank t.root true → IsWalk t reached [] []
walk_begins t blank reached lt is_blank is =
    let len : length (replicate t.nodes false) ≡ t.nodes = length-replicate t.nodes false in
    let root_blank : get_or (replicate t.nodes false) t.root false ≡ false = get_or-replicate t.nodes t.root false false lt in
    let none : nodes_in (replicate t.nodes false) ≡ 0 = sum_by-replicate (λ (m : Bool). cond m 1 0) t.nodes false ∙ (omega arith) in
    let one : nodes_in (set (replicate t.nodes false) t.root true) ≡ nodes_in (replicate t.nodes false) + 1 = one_more_marked (replicate t.nodes false) t.root (omega arith) root_blank in
    rw (is, is_blank) (record {
      count = length-set (replicate t.nodes false) t.root true ∙ len;
      sizes = omega arith;
      marks = λ k. elim (cases_eq k t.root) [
        | inl e ↦ rw e (get_or-set_same (replicate t.nodes false) t.root true false (omega arith) ∙ sym (or_left (is_visited t [] t.root) false (or_left (eqb t.root t.root) false (eqb_same t.root))))
        | inr ne ↦
            let other : get_or (set (replicate t.nodes false) t.root true) k false ≡ get_or (replicate t.nodes false) k false = get_or-set_other (replicate t.nodes false) t.root k true false ne in
            let blank_there : get_or (replicate t.nodes false) k false ≡ false = elim (cases_lt k t.nodes) [
              | inl within ↦ get_or-replicate t.nodes k false false within
              | inr past ↦ get_or_past (replicate t.nodes false) k false (omega arith)
            ] in
            let unvisited : eqb t.root k ≡ false = eqb_apart t.root k (λ e. ne (sym e)) in
            other ∙ blank_there ∙ sym (or_from (is_visited t [] k) false (or_from (eqb t.root k) false unvisited refl) refl)
      ];
      grown = record {
        joins = λ i s at. absurd (none-some s at);
        from = λ i s at. absurd (none-some s at);
        to = λ i s at. absurd (none-some s at);
      };
      joins = λ i s at. absurd (none-some s at);
      from = λ i s at. absurd (none-some s at);
      to = λ i s at. absurd (none-some s at);
      once = λ i s at. absurd (none-some s at);
      stack = stack_begins t;
    })

-- a step to a node that is not marked is kept to be made
pub walk_reaches : (t : TreeParts) (reached : List Bool) (steps pending : List Step) (s : Step) → IsWalk t reached steps pending
    → Joins t.resistors s.resistor s.from s.to → s.to < t.nodes → is_visited t steps s.from ≡ true → s.from ≡ node_at t steps (length steps) → get_or reached s.to false ≡ false
    → IsWalk t (set reached s.to true) steps (pending ++ s ∷ [])
walk_reaches t reached steps pending s w joins there from last unmarked =
    let counts : length reached ≡ t.nodes = w.count in
    let more : nodes_in (set reached s.to true) ≡ nodes_in reached + 1 = one_more_marked reached s.to (omega arith) unmarked in
    let len : length (pending ++ s ∷ []) ≡ length pending + 1 = length_push pending s in
    let sizes : nodes_in reached ≡ 1 + length steps + length pending = w.sizes in
    let apart : (is_visited t steps s.to ≡ false) × (leads_to pending s.to ≡ false) = or_parts (is_visited t steps s.to) (leads_to pending s.to) (sym (w.marks s.to) ∙ unmarked) in
    record {
      count = length-set reached s.to true ∙ counts;
      sizes = omega arith;
      marks = λ k. elim (cases_eq k s.to) [
        | inl e ↦
            let is_led : leads_to (pending ++ s ∷ []) s.to ≡ true = leads_push pending s s.to ∙ or_right (leads_to pending s.to) (eqb s.to s.to) (eqb_same s.to) in
            rw e (get_or-set_same reached s.to true false (omega arith) ∙ sym (or_right (is_visited t steps s.to) (leads_to (pending ++ s ∷ []) s.to) is_led))
        | inr ne ↦
            let differs : eqb s.to k ≡ false = eqb_apart s.to k (λ e. ne (sym e)) in
            let same : leads_to (pending ++ s ∷ []) k ≡ leads_to pending k = leads_push pending s k ∙ ap (λ b. leads_to pending k || b) differs ∙ or_nothing (leads_to pending k) in
            get_or-set_other reached s.to k true false ne ∙ w.marks k ∙ ap (λ b. is_visited t steps k || b) (sym same)
      ];
      grown = w.grown;
      joins = λ i r at. elim (slice_get_push pending s i r at) [
        | inl old ↦ w.joins i r old.1
        | inr new ↦ let P : Step → Type 0 = λ q. Joins t.resistors q.resistor q.from q.to in subst P new.1 joins
      ];
      from = λ i r at. elim (slice_get_push pending s i r at) [
        | inl old ↦ w.from i r old.1
        | inr new ↦ let P : Step → Type 0 = λ q. is_visited t steps q.from ≡ true in subst P new.1 from
      ];
      to = λ i r at. elim (slice_get_push pending s i r at) [
        | inl old ↦ w.to i r old.1
        | inr new ↦ let P : Step → Type 0 = λ q. is_visited t steps q.to ≡ false in subst P new.1 apart.0
      ];
      once = λ i r at. elim (slice_get_push pending s i r at) [
        | inl old ↦
            let lt : i < length pending = old.0 in
            ap (λ xs. leads_to xs r.to) (take-append-le i pending (s ∷ []) (omega arith)) ∙ w.once i r old.1
        | inr new ↦
            let all : take i (pending ++ s ∷ []) ≡ pending = ap (λ n. take n (pending ++ s ∷ [])) new.0 ∙ take-append_seam pending (s ∷ []) in
            let P : Step → Type 0 = λ q. leads_to pending q.to ≡ false in
            ap (λ xs. leads_to xs r.to) all ∙ subst P new.1 apart.1
      ];
      stack = stack_reaches t steps pending s w.stack last;
    }

-- the last pending step is made
pub walk_goes : (t : TreeParts) (reached : List Bool) (steps rest : List Step) (s : Step) → IsWalk t reached steps (rest ++ s ∷ []) → IsWalk t reached (steps ++ s ∷ []) rest
walk_goes t reached steps rest s w =
    let len : length (rest ++ s ∷ []) ≡ length rest + 1 = length_push rest s in
    let more : length (steps ++ s ∷ []) ≡ length steps + 1 = length_push steps s in
    let sizes : nodes_in reached ≡ 1 + length steps + length (rest ++ s ∷ []) = w.sizes in
    let at_end : slice_get (rest ++ s ∷ []) (length rest) ≡ Some s = last_pushed rest s in
    let seam : take (length rest) (rest ++ s ∷ []) ≡ rest = take-append_seam rest (s ∷ []) in
    let its_once : leads_to rest s.to ≡ false = ap (λ xs. leads_to xs s.to) (sym seam) ∙ w.once (length rest) s at_end in
    let earlier : (i : ℕ) (r : Step) → slice_get rest i ≡ Some r → slice_get (rest ++ s ∷ []) i ≡ Some r = λ i r at. earlier_pushed rest s i r at in
    record {
      count = w.count;
      sizes = omega arith;
      marks = λ k. w.marks k ∙ ap (λ b. is_visited t steps k || b) (leads_push rest s k) ∙ sym (or_past (is_visited t steps k) (eqb s.to k) (leads_to rest k)) ∙ ap (λ b. b || leads_to rest k) (sym (visited_push t steps s k));
      grown = record {
        joins = λ i r at. elim (slice_get_push steps s i r at) [
          | inl old ↦ w.grown.joins i r old.1
          | inr new ↦ let P : Step → Type 0 = λ q. Joins t.resistors q.resistor q.from q.to in subst P new.1 (w.joins (length rest) s at_end)
        ];
        from = λ i r at. elim (slice_get_push steps s i r at) [
          | inl old ↦
              let lt : i < length steps = old.0 in
              ap (λ xs. is_visited t xs r.from) (take-append-le i steps (s ∷ []) (omega arith)) ∙ w.grown.from i r old.1
          | inr new ↦
              let all : take i (steps ++ s ∷ []) ≡ steps = ap (λ n. take n (steps ++ s ∷ [])) new.0 ∙ take-append_seam steps (s ∷ []) in
              let P : Step → Type 0 = λ q. is_visited t steps q.from ≡ true in
              ap (λ xs. is_visited t xs r.from) all ∙ subst P new.1 (w.from (length rest) s at_end)
        ];
        to = λ i r at. elim (slice_get_push steps s i r at) [
          | inl old ↦
              let lt : i < length steps = old.0 in
              ap (λ xs. is_visited t xs r.to) (take-append-le i steps (s ∷ []) (omega arith)) ∙ w.grown.to i r old.1
          | inr new ↦
              let all : take i (steps ++ s ∷ []) ≡ steps = ap (λ n. take n (steps ++ s ∷ [])) new.0 ∙ take-append_seam steps (s ∷ []) in
              let P : Step → Type 0 = λ q. is_visited t steps q.to ≡ false in
              ap (λ xs. is_visited t xs r.to) all ∙ subst P new.1 (w.to (length rest) s at_end)
        ];
      };
      joins = λ i r at. w.joins i r (earlier i r at);
      from = λ i r at. visited_push t steps s r.from ∙ or_left (is_visited t steps r.from) (eqb s.to r.from) (w.from i r (earlier i r at));
      to = λ i r at.
          let apart : eqb s.to r.to ≡ false = elim (cases_Bool (eqb s.to r.to)) [
            | inl e ↦
                let led : leads_to rest s.to ≡ true = led_by rest i r s.to at (sym (eqb_is s.to r.to e)) in
                not_both (leads_to rest s.to) led its_once
            | inr differ ↦ differ
          ] in
          visited_push t steps s r.to ∙ or_from (is_visited t steps r.to) (eqb s.to r.to) (w.to i r (earlier i r at)) apart;
      once = λ i r at.
          let lt : i < length rest = slice_get_within rest i r at in
          ap (λ xs. leads_to xs r.to) (sym (take-append-le i rest (s ∷ []) (omega arith))) ∙ w.once i r (earlier i r at);
      stack = stack_goes t steps rest s w.stack w.from (w.to (length rest) s at_end);
    }
  where
    last_pushed : {X : Type 0} (xs : List X) (x : X) → slice_get (xs ++ x ∷ []) (length xs) ≡ Some x
    last_pushed [] x = refl
    last_pushed (y ∷ ys) x = last_pushed ys x

    earlier_pushed : {X : Type 0} (xs : List X) (x : X) (i : ℕ) (y : X) → slice_get xs i ≡ Some y → slice_get (xs ++ x ∷ []) i ≡ Some y
    earlier_pushed [] x i y at = absurd (none-some y at)
    earlier_pushed (z ∷ zs) x zero y at = at
    earlier_pushed (z ∷ zs) x (suc i) y at = earlier_pushed zs x i y at

    led_by : (xs : List Step) (i : ℕ) (r : Step) (k : ℕ) → slice_get xs i ≡ Some r → r.to ≡ k → leads_to xs k ≡ true
    led_by [] i r k at e = absurd (none-some r at)
    led_by (x ∷ xs) zero r k at e = or_left (eqb x.to k) (leads_to xs k) (let same : x ≡ r = same_Some x r at in ap (λ (q : Step). eqb q.to k) same ∙ (rw e (eqb_same k)))
    led_by (x ∷ xs) (suc i) r k at e = or_right (eqb x.to k) (leads_to xs k) (led_by xs i r k at e)

pub within_marks : (t : TreeParts) (reached : List Bool) (k : ℕ) → length reached ≡ t.nodes → is_in reached k ≡ true → k < t.nodes
within_marks t reached k count h =
    elim (cases_lt k (length reached)) [
      | inl lt ↦ omega arith
      | inr past ↦ not_both (is_in reached k) h (get_or_past reached k false past)
    ]

pub visited_marked : (t : TreeParts) (reached : List Bool) (steps pending : List Step) (k : ℕ) → IsWalk t reached steps pending → is_visited t steps k ≡ true → is_in reached k ≡ true
visited_marked t reached steps pending k w h = w.marks k ∙ or_left (is_visited t steps k) (leads_to pending k) h

-- the end of the step that was made last
pub last_visited : (t : TreeParts) (steps : List Step) (s : Step) → is_visited t (steps ++ s ∷ []) s.to ≡ true
last_visited t steps s = visited_push t steps s s.to ∙ or_right (is_visited t steps s.to) (eqb s.to s.to) (eqb_same s.to)

pub last_there : (t : TreeParts) (reached : List Bool) (steps rest : List Step) (s : Step) → IsWalk t reached (steps ++ s ∷ []) rest → s.to < t.nodes
last_there t reached steps rest s w = within_marks t reached s.to w.count (visited_marked t reached (steps ++ s ∷ []) rest s.to w (last_visited t steps s))

-- marks that are kept, and a node from which the walk has spread
pub spread_more : (t : TreeParts) (old new : List Bool) (steps : List Step) (s : Step) → IsSpread t old steps → ((k : ℕ) → is_in old k ≡ true → is_in new k ≡ true)
    → IsSpreadAt t new s.to → IsSpread t new (steps ++ s ∷ [])
spread_more t old new steps s before keeps here = record {
  each = λ a h. elim (or_cases (is_visited t steps a) (eqb s.to a) (sym (visited_push t steps s a) ∙ h)) [
    | inl earlier ↦ record { each = λ j b joins. keeps b ((before.each a earlier).each j b joins) }
    | inr last ↦ let P : ℕ → Type 0 = λ m. IsSpreadAt t new m in subst P (eqb_is s.to a last) here
  ];
}

pub spread_first : (t : TreeParts) (reached : List Bool) (steps : List Step) → steps ≡ [] → IsSpreadAt t reached t.root → IsSpread t reached steps
spread_first t reached steps none here = record {
  each = λ a h.
      let unstepped : is_visited t [] a ≡ true = rw none at h in
      elim (or_cases (eqb t.root a) false unstepped) [
        | inl e ↦ let P : ℕ → Type 0 = λ m. IsSpreadAt t reached m in subst P (eqb_is t.root a e) here
        | inr never ↦ absurd (false≢true never)
      ];
}

nothing_in : {X : Type 0} (xs : List X) → length xs ≡ 0 → xs ≡ []
nothing_in [] h = refl
nothing_in (x ∷ xs) h = absurd (omega arith)

pub walk_ends : (t : TreeParts) (reached : List Bool) (steps pending : List Step) → length pending ≡ 0 → IsWalk t reached steps pending → IsSpread t reached steps → IsWalked t reached steps
walk_ends t reached steps pending none w spread =
    let sizes : nodes_in reached ≡ 1 + length steps + length pending = w.sizes in
    record {
      count = w.count;
      sizes = omega arith;
      marks = λ k. w.marks k ∙ ap (λ ss. is_visited t steps k || leads_to ss k) (nothing_in pending none) ∙ or_nothing (is_visited t steps k);
      grown = w.grown;
      spread = spread;
      order = w.stack.order;
    }

pub walk_goes_at : (t : TreeParts) (reached : List Bool) (steps pending rest made : List Step) (s : Step) → pending ≡ rest ++ s ∷ [] → made ≡ steps ++ s ∷ []
    → IsWalk t reached steps pending → IsWalk t reached made rest
walk_goes_at t reached steps pending rest made s is_pending is_made w = rw is_made (walk_goes t reached steps rest s (rw is_pending at w))

-- a walk has no more steps than nodes
pub few_steps : (t : TreeParts) (reached : List Bool) (steps pending : List Step) → IsWalk t reached steps pending → 1 + length steps + length pending ≤ t.nodes
few_steps t reached steps pending w =
    let sizes : nodes_in reached ≡ 1 + length steps + length pending = w.sizes in
    let count : length reached ≡ t.nodes = w.count in
    omega (arith, count_by-le-length (λ (m : Bool). m) reached)
