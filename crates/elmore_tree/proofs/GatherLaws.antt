-- Capacitance moved along the steps of a walk, and sums along them.
use Rattle.std.proofs.Common.{◌≡◌, ◌≢◌, ℕ, suc, ◌+◌, ◌*◌, ◌<◌, ◌≤◌, ◌^◌, Bool, true, false, cond, eqb, ◌||◌, List, [], ◌∷◌, length, take, get_or, set, replicate, Some, refl, sym, ap, ◌∙◌, subst, arith, inl, inr, ◌⊎◌}
use Rattle.std.specs.Int.RustNames.{unsigned_abs}
use Rattle.std.specs.Prelude.{ℤ, pos, negsuc, ◌≤ℤ◌}
use Rattle.std.specs.List.{slice_get}
use Rattle.std.proofs.lemmas.Int.{ints}
use Rattle.std.proofs.lemmas.Bool.{cases_lt, cases_eq, false≢true, or_left, or_right, or_cases, cases_Bool}
use Rattle.std.proofs.lemmas.List.{get_or-set_same, get_or-set_other, get_or-replicate, length-set, length-replicate}
use Rattle.std.proofs.lemmas.Option.{slice_get_within, slice_get_past, slice_get-get_or, get_or_from_slice_get}
use Rattle.std.proofs.Common.{mul-le-mul_right}
use Rattle.elmore_tree.specs.declared.part.Resistor.{Resistor}
use Rattle.elmore_tree.specs.declared.walk.Step.{Step}
use Rattle.elmore_tree.specs.Trees.{TreeParts, IsSoundTree, IsSoundResistor}
use Rattle.elmore_tree.specs.Paths.{Joins, is_on}
use Rattle.elmore_tree.specs.Sums.{sum_below, shared, resistance}
use Rattle.elmore_tree.specs.Walks.{is_visited, IsGrown, path_to, path_of}
use Rattle.elmore_tree.specs.Gathering.{elmore_sum, behind, visited_sum, cap_sum, IsGathered, AreSumsOf}
use Rattle.elmore_tree.proofs.Bools.{or_nothing, not_both, eqb_same, eqb_apart, eqb_is}
use Rattle.elmore_tree.proofs.SumLaws.{below_same, below_added, below_scaled, below_most, below_none, below_bumped, below_one, below_two, term, shared_more, shared_most}
use Rattle.elmore_tree.proofs.PathLaws.{element_at, visited_more, path_more, path_kept, path_none, path_root, path_short, path_of_end, fresh_on}

abbrev pub no_step : Step
no_step = record { from = 0; resistor = 0; to = 0 }

-- ---- a sound wire
pub joined_there : (t : TreeParts) (j a b : ℕ) → IsSoundTree t → Joins t.resistors j a b → (a < t.nodes) × (b < t.nodes) × (j < length t.resistors)
joined_there t j a b sound joins =
    elim (cases_lt j (length t.resistors)) [
      | inl lt ↦
          let r = element_at t.resistors j lt in
          let fine : IsSoundResistor t.nodes (get_or t.resistors j r.0) = sound.resistors j r.0 lt in
          let same : get_or t.resistors j r.0 ≡ r.0 = get_or_from_slice_get t.resistors j r.0 r.0 r.1 in
          let P : Resistor → Type 0 = λ q. IsSoundResistor t.nodes q in
          let its : IsSoundResistor t.nodes r.0 = subst P same fine in
          let ends : ((r.0.a ≡ a) × (r.0.b ≡ b)) ⊎ ((r.0.a ≡ b) × (r.0.b ≡ a)) = rw r.1 at joins in
          elim ends [
            | inl w ↦ (rw (← w.0) its.a, rw (← w.1) its.b, lt)
            | inr w ↦ (rw (← w.1) its.b, rw (← w.0) its.a, lt)
          ]
      | inr past ↦ absurd (rw (slice_get_past t.resistors j past) at joins)
    ]

pub small : (z : ℤ) → pos 0 ≤ℤ z → z ≤ℤ pos (2 ^ 40) → unsigned_abs z ≤ 2 ^ 40
small (pos n) a b = omega (arith, ints)
small (negsuc n) a b = absurd (omega (arith, ints))

pub resistance_most : (t : TreeParts) → IsSoundTree t → (j : ℕ) → resistance t j ≤ 2 ^ 40
resistance_most t sound j =
    elim (cases_lt j (length t.resistors)) [
      | inl lt ↦
          let r = element_at t.resistors j lt in
          let fine : IsSoundResistor t.nodes (get_or t.resistors j r.0) = sound.resistors j r.0 lt in
          let same : get_or t.resistors j r.0 ≡ r.0 = get_or_from_slice_get t.resistors j r.0 r.0 r.1 in
          let P : Resistor → Type 0 = λ q. IsSoundResistor t.nodes q in
          let its : IsSoundResistor t.nodes r.0 = subst P same fine in
          rw r.1 (small r.0.value its.least its.most)
      | inr past ↦ rw (slice_get_past t.resistors j past) (omega arith)
    ]

pub resistance_is : (t : TreeParts) (items : List Resistor) (j : ℕ) (d : Resistor) → items ≡ t.resistors → j < length t.resistors → unsigned_abs (get_or items j d).value ≡ resistance t j
resistance_is t items j d e lt =
    let at = slice_get-get_or t.resistors j d lt in
    rw (e, at) refl

-- ---- capacitance moved from one node to another
moved : (on1 on0 : ℕ → Bool) (x : List ℕ) (n from to : ℕ) → from < n → to < n → n ≡ length x → from ≢ to → on1 to ≡ on0 from → ((k : ℕ) → k ≢ to → on1 k ≡ on0 k) → on0 to ≡ false
    → sum_below (λ k. cond (on0 k) (get_or (set x from (get_or x from 0 + get_or x to 0)) k 0) 0) n ≡ sum_below (λ k. cond (on1 k) (get_or x k 0) 0) n
moved on1 on0 x n from to lf lt len ne e rest off =
    let m : ℕ → ℕ = λ k. cond (on0 k) (get_or x k 0) 0 in
    let h1 : ℕ → ℕ = λ k. cond (on1 k) (get_or x k 0) 0 in
    let h0 : ℕ → ℕ = λ k. cond (on0 k) (get_or (set x from (get_or x from 0 + get_or x to 0)) k 0) 0 in
    let v : ℕ = cond (on0 from) (get_or x to 0) 0 in
    let m_to : m to ≡ 0 = ap (λ b. cond b (get_or x to 0) 0) off in
    let h1_to : h1 to ≡ v = ap (λ b. cond b (get_or x to 0) 0) e in
    let one : sum_below h1 n ≡ sum_below m n + v = below_bumped m h1 n to v lt (omega arith) (λ k other. ap (λ b. cond b (get_or x k 0) 0) (rest k other)) in
    let put : get_or (set x from (get_or x from 0 + get_or x to 0)) from 0 ≡ get_or x from 0 + get_or x to 0 = get_or-set_same x from (get_or x from 0 + get_or x to 0) 0 (omega arith) in
    let h0_from : h0 from ≡ m from + v = ap (λ c. cond (on0 from) c 0) put ∙ split (on0 from) (get_or x from 0) (get_or x to 0) in
    let two : sum_below h0 n ≡ sum_below m n + v = below_bumped m h0 n from v lf h0_from (λ k other. ap (λ c. cond (on0 k) c 0) (get_or-set_other x from k (get_or x from 0 + get_or x to 0) 0 other)) in
    two ∙ sym one
  where
    split : (b : Bool) (p q : ℕ) → cond b (p + q) 0 ≡ cond b p 0 + cond b q 0
    split true p q = refl
    split false p q = omega arith

cond_most : (b : Bool) (x : ℕ) → cond b x 0 ≤ x
cond_most true x = omega arith
cond_most false x = omega arith

pub behind_most : (t : TreeParts) (steps : List Step) (caps : List ℕ) (i j : ℕ) → behind t steps caps i j ≤ cap_sum t caps
behind_most t steps caps i j = below_most (λ k. cond (is_on (path_to steps i k) j) (get_or caps k 0) 0) (λ k. get_or caps k 0) t.nodes (λ k lt. cond_most (is_on (path_to steps i k) j) (get_or caps k 0))

module _ (t : TreeParts) (steps : List Step) (g : IsGrown t steps) (sound : IsSoundTree t) where
  pub gather_begins : (caps : List ℕ) (n : ℕ) → n ≡ length steps → length caps ≡ t.nodes → cap_sum t caps ≤ 2 ^ 46 → IsGathered t steps caps caps n
  gather_begins caps n e count most = record {
    count = count;
    most = let fewer : visited_sum t steps caps n ≤ cap_sum t caps = below_most (λ k. cond (is_visited t (take n steps) k) (get_or caps k 0) 0) (λ k. get_or caps k 0) t.nodes (λ k lt. cond_most (is_visited t (take n steps) k) (get_or caps k 0)) in omega arith;
    before = λ m s at lt. ap (λ q. behind t steps caps q s.resistor) e;
    after = λ m s at le. absurd (let lt : m < length steps = slice_get_within steps m s at in omega arith);
  }

  pub ends_differ : (i : ℕ) (s : Step) → slice_get steps i ≡ Some s → s.from ≢ s.to
  ends_differ i s at e = not_both (is_visited t (take i steps) s.to) (rw (← e) (g.from i s at)) (g.to i s at)

  pub resistor_apart : (m i : ℕ) (r s : Step) → m < i → slice_get steps m ≡ Some r → slice_get steps i ≡ Some s → eqb s.resistor r.resistor ≡ false
  resistor_apart m i r s lt at_m at_i =
      let within : i < length steps = slice_get_within steps i s at_i in
      let made : path_to steps (suc m) r.to ≡ r.resistor ∷ path_to steps m r.from = path_more t steps g m r r.to at_m ∙ ap (λ b. cond b (r.resistor ∷ path_to steps m r.from) (path_to steps m r.to)) (eqb_same r.to) in
      let visited : is_visited t (take (suc m) steps) r.to ≡ true = visited_more t steps g m r r.to at_m ∙ or_right (is_visited t (take m steps) r.to) (eqb r.to r.to) (eqb_same r.to) in
      let kept : path_to steps i r.to ≡ path_to steps (suc m) r.to = (path_kept t steps g (suc m) i r.to (omega arith) (omega arith) visited).0 in
      let on : is_on (path_to steps i r.to) r.resistor ≡ true = ap (λ p. is_on p r.resistor) (kept ∙ made) ∙ or_left (eqb r.resistor r.resistor) (is_on (path_to steps m r.from) r.resistor) (eqb_same r.resistor) in
      elim (cases_Bool (eqb s.resistor r.resistor)) [
        | inl same ↦ not_both (is_on (path_to steps i r.to) r.resistor) on (rw (← eqb_is s.resistor r.resistor same) (fresh_on t steps g i s r.to at_i))
        | inr differ ↦ differ
      ]

  path_other : (i : ℕ) (s : Step) (k : ℕ) → slice_get steps i ≡ Some s → k ≢ s.to → path_to steps (suc i) k ≡ path_to steps i k
  path_other i s k at ne = path_more t steps g i s k at ∙ ap (λ b. cond b (s.resistor ∷ path_to steps i s.from) (path_to steps i k)) (eqb_apart s.to k (λ e. ne (sym e)))

  path_last : (i : ℕ) (s : Step) → slice_get steps i ≡ Some s → path_to steps (suc i) s.to ≡ s.resistor ∷ path_to steps i s.from
  path_last i s at = path_more t steps g i s s.to at ∙ ap (λ b. cond b (s.resistor ∷ path_to steps i s.from) (path_to steps i s.to)) (eqb_same s.to)

  behind_moved : (i : ℕ) (s : Step) (x : List ℕ) (j : ℕ) → slice_get steps i ≡ Some s → length x ≡ t.nodes → eqb s.resistor j ≡ false
      → behind t steps (set x s.from (get_or x s.from 0 + get_or x s.to 0)) i j ≡ behind t steps x (suc i) j
  behind_moved i s x j at count apart =
      let there = joined_there t s.resistor s.from s.to sound (g.joins i s at) in
      let lt : i < length steps = slice_get_within steps i s at in
      moved (λ k. is_on (path_to steps (suc i) k) j) (λ k. is_on (path_to steps i k) j) x t.nodes s.from s.to there.0 there.1 (sym count) (ends_differ i s at)
      (ap (λ p. is_on p j) (path_last i s at) ∙ ap (λ b. b || is_on (path_to steps i s.from) j) apart)
      (λ k ne. ap (λ p. is_on p j) (path_other i s k at ne))
      (ap (λ p. is_on p j) (path_none t steps g i s.to (omega arith) (g.to i s at)))

  visited_moved : (i : ℕ) (s : Step) (x : List ℕ) → slice_get steps i ≡ Some s → length x ≡ t.nodes
      → visited_sum t steps (set x s.from (get_or x s.from 0 + get_or x s.to 0)) i ≡ visited_sum t steps x (suc i)
  visited_moved i s x at count =
      let there = joined_there t s.resistor s.from s.to sound (g.joins i s at) in
      moved (λ k. is_visited t (take (suc i) steps) k) (λ k. is_visited t (take i steps) k) x t.nodes s.from s.to there.0 there.1 (sym count) (ends_differ i s at)
      (visited_more t steps g i s s.to at ∙ or_right (is_visited t (take i steps) s.to) (eqb s.to s.to) (eqb_same s.to) ∙ sym (g.from i s at))
      (λ k ne. visited_more t steps g i s k at ∙ ap (λ b. is_visited t (take i steps) k || b) (eqb_apart s.to k (λ e. ne (sym e))) ∙ or_nothing (is_visited t (take i steps) k))
      (g.to i s at)

  behind_last : (i : ℕ) (s : Step) (x : List ℕ) → slice_get steps i ≡ Some s → behind t steps x (suc i) s.resistor ≡ get_or x s.to 0
  behind_last i s x at =
      let there = joined_there t s.resistor s.from s.to sound (g.joins i s at) in
      let f : ℕ → ℕ = λ k. cond (is_on (path_to steps (suc i) k) s.resistor) (get_or x k 0) 0 in
      let all : sum_below f t.nodes ≡ f s.to = below_one f t.nodes s.to there.1 (λ k ne. ap (λ b. cond b (get_or x k 0) 0) (ap (λ p. is_on p s.resistor) (path_other i s k at ne) ∙ fresh_on t steps g i s k at)) in
      all ∙ ap (λ b. cond b (get_or x s.to 0) 0) (ap (λ p. is_on p s.resistor) (path_last i s at) ∙ or_left (eqb s.resistor s.resistor) (is_on (path_to steps i s.from) s.resistor) (eqb_same s.resistor))

  -- two ends of a step have no more than is visited
  pub pair_most : (first x : List ℕ) (n i : ℕ) (d : Step) → n ≡ suc i → n ≤ length steps → IsGathered t steps first x n → get_or x (get_or steps i d).from 0 + get_or x (get_or steps i d).to 0 ≤ 2 ^ 46
  pair_most first x n i d e le w =
      let s = get_or steps i d in
      let at : slice_get steps i ≡ Some s = slice_get-get_or steps i d (omega arith) in
      let there = joined_there t s.resistor s.from s.to sound (g.joins i s at) in
      let f : ℕ → ℕ = λ k. cond (is_visited t (take (suc i) steps) k) (get_or x k 0) 0 in
      let both : f s.from + f s.to ≤ sum_below f t.nodes = below_two f t.nodes s.from s.to there.0 there.1 (ends_differ i s at) in
      let one : f s.from ≡ get_or x s.from 0 = ap (λ b. cond b (get_or x s.from 0) 0) (visited_more t steps g i s s.from at ∙ or_left (is_visited t (take i steps) s.from) (eqb s.to s.from) (g.from i s at)) in
      let two : f s.to ≡ get_or x s.to 0 = ap (λ b. cond b (get_or x s.to 0) 0) (visited_more t steps g i s s.to at ∙ or_right (is_visited t (take i steps) s.to) (eqb s.to s.to) (eqb_same s.to)) in
      let most : visited_sum t steps x (suc i) ≤ 2 ^ 46 = rw (← e) w.most in
      omega (arith, both, one, two, most)

  pub gather_turn : (first x : List ℕ) (n i : ℕ) (d : Step) → n ≡ suc i → n ≤ length steps → IsGathered t steps first x n
      → IsGathered t steps first (set x (get_or steps i d).from (get_or x (get_or steps i d).from 0 + get_or x (get_or steps i d).to 0)) i
  gather_turn first x n i d e le w =
      let s = get_or steps i d in
      let at : slice_get steps i ≡ Some s = slice_get-get_or steps i d (omega arith) in
      let v : ℕ = get_or x s.from 0 + get_or x s.to 0 in
      let count : length x ≡ t.nodes = w.count in
      record {
        count = length-set x s.from v ∙ count;
        most = rw (visited_moved i s x at count) (rw (← e) w.most);
        before = λ m r at_m lt. behind_moved i s x r.resistor at count (resistor_apart m i r s lt at_m at) ∙ (let old : behind t steps x (suc i) r.resistor ≡ behind t steps first (length steps) r.resistor = ap (λ q. behind t steps x q r.resistor) (sym e) ∙ w.before m r at_m (omega arith) in old);
        after = λ m r at_m ge.
            let apart : r.to ≢ s.from = λ same. (
            let within : m < length steps = slice_get_within steps m r at_m in
            let still : is_visited t (take m steps) s.from ≡ true = (path_kept t steps g i m s.from ge (omega arith) (g.from i s at)).1 in
            not_both {A = ⊥} (is_visited t (take m steps) r.to) (rw same still) (g.to m r at_m)) in
            let unmoved : get_or (set x s.from v) r.to 0 ≡ get_or x r.to 0 = get_or-set_other x s.from r.to v 0 apart in
            elim (cases_eq m i) [
              | inl same ↦
                  let it : slice_get steps i ≡ Some r = rw same at at_m in
                  unmoved ∙ (sym (behind_last i r x it) ∙ (ap (λ q. behind t steps x q r.resistor) (sym e) ∙ w.before m r at_m (omega arith)))
              | inr ne ↦ unmoved ∙ w.after m r at_m (omega arith)
            ];
      }

  -- ---- sums along the steps
  pub sums_begin : (caps sums : List ℕ) → sums ≡ replicate t.nodes 0 → AreSumsOf t steps caps sums 0
  sums_begin caps sums e = record {
    count = rw e (length-replicate t.nodes 0);
    each = λ k h.
        let is_root : t.root ≡ k = elim (or_cases (eqb t.root k) false h) [ inl same ↦ eqb_is t.root k same | inr never ↦ absurd (false≢true never) ] in
        let blank : get_or (replicate t.nodes 0) k 0 ≡ 0 = get_or-replicate t.nodes k 0 0 (rw (← is_root) sound.root) in
        let empty : path_of steps k ≡ [] = rw (← is_root) (path_root t steps g (length steps) (omega arith)) in
        let none : elmore_sum t steps caps k ≡ 0 = below_none (λ m. shared t (path_of steps k) (path_of steps m) * get_or caps m 0) t.nodes (λ m lt. rw empty (omega arith)) in
        rw e (blank ∙ sym none);
  }

  elmore_step : (caps : List ℕ) (i : ℕ) (s : Step) → slice_get steps i ≡ Some s
      → elmore_sum t steps caps s.to ≡ elmore_sum t steps caps s.from + resistance t s.resistor * behind t steps caps (length steps) s.resistor
  elmore_step caps i s at =
      let p : ℕ → List ℕ = λ k. path_of steps k in
      let q : List ℕ = p s.from in
      let ohms : ℕ = resistance t s.resistor in
      let f : ℕ → ℕ = λ m. shared t (p s.to) (p m) * get_or caps m 0 in
      let a : ℕ → ℕ = λ m. shared t q (p m) * get_or caps m 0 in
      let b : ℕ → ℕ = λ m. cond (is_on (p m) s.resistor) (get_or caps m 0) 0 in
      let each : (m : ℕ) → f m ≡ a m + ohms * b m = λ m.
      (let one : shared t (p s.to) (p m) ≡ term t (p m) s.resistor + shared t q (p m) = ap (λ r. shared t r (p m)) (path_of_end t steps g i s at) ∙ shared_more t s.resistor q (p m) in
      let two : term t (p m) s.resistor * get_or caps m 0 ≡ ohms * b m = pulled (is_on (p m) s.resistor) ohms (get_or caps m 0) in
      ap (λ n. n * get_or caps m 0) one ∙ omega (arith, two)) in
      let sum : sum_below f t.nodes ≡ sum_below (λ m. a m + ohms * b m) t.nodes = below_same f (λ m. a m + ohms * b m) t.nodes (λ m lt. each m) in
      let parts : sum_below (λ m. a m + ohms * b m) t.nodes ≡ sum_below a t.nodes + sum_below (λ m. ohms * b m) t.nodes = below_added a (λ m. ohms * b m) t.nodes in
      let scaled : sum_below (λ m. ohms * b m) t.nodes ≡ ohms * sum_below b t.nodes = below_scaled ohms b t.nodes in
      sum ∙ (parts ∙ ap (λ n. sum_below a t.nodes + n) scaled)
    where
      pulled : (on : Bool) (r c : ℕ) → cond on r 0 * c ≡ r * cond on c 0
      pulled true r c = refl
      pulled false r c = omega arith

  pub sums_turn : (first x sums : List ℕ) (i : ℕ) (d : Step) → i < length steps → IsGathered t steps first x 0 → AreSumsOf t steps first sums i
      → AreSumsOf t steps first (set sums (get_or steps i d).to (get_or sums (get_or steps i d).from 0 + resistance t (get_or steps i d).resistor * get_or x (get_or steps i d).to 0)) (i + 1)
  sums_turn first x sums i d lt w h =
      let s = get_or steps i d in
      let at : slice_get steps i ≡ Some s = slice_get-get_or steps i d lt in
      let there = joined_there t s.resistor s.from s.to sound (g.joins i s at) in
      let count : length sums ≡ t.nodes = h.count in
      let v : ℕ = get_or sums s.from 0 + resistance t s.resistor * get_or x s.to 0 in
      let next : i + 1 ≡ suc i = omega arith in
      rw next (record {
        count = length-set sums s.to v ∙ count;
        each = λ k visited. elim (cases_eq k s.to) [
          | inl e ↦
              let from : get_or sums s.from 0 ≡ elmore_sum t steps first s.from = h.each s.from (g.from i s at) in
              let flow : get_or x s.to 0 ≡ behind t steps first (length steps) s.resistor = w.after i s at (omega arith) in
              let whole : v ≡ elmore_sum t steps first s.to = rw (from, flow) (sym (elmore_step first i s at)) in
              rw e (get_or-set_same sums s.to v 0 (omega (arith, there.1)) ∙ whole)
          | inr ne ↦
              let other : eqb s.to k ≡ false = eqb_apart s.to k (λ e. ne (sym e)) in
              let earlier : is_visited t (take i steps) k ≡ true = elim (or_cases (is_visited t (take i steps) k) (eqb s.to k) (sym (visited_more t steps g i s k at) ∙ visited)) [
                | inl old ↦ old
                | inr last ↦ not_both (eqb s.to k) last other
              ] in
              get_or-set_other sums s.to k v 0 ne ∙ h.each k earlier
        ];
      })

  -- ---- sizes
  pub shared_fits : length steps < 65536 → (k : ℕ) (q : List ℕ) → shared t (path_of steps k) q ≤ 2 ^ 56
  shared_fits few k q =
      let short : length (path_of steps k) ≤ length steps = path_short t steps g (length steps) k (omega arith) in
      let most : shared t (path_of steps k) q ≤ length (path_of steps k) * 2 ^ 40 = shared_most t (path_of steps k) q (resistance_most t sound) in
      omega arith

  pub elmore_most : length steps < 65536 → (caps : List ℕ) (k : ℕ) → elmore_sum t steps caps k ≤ 2 ^ 56 * cap_sum t caps
  elmore_most few caps k =
      let f : ℕ → ℕ = λ m. shared t (path_of steps k) (path_of steps m) * get_or caps m 0 in
      let all : sum_below f t.nodes ≤ sum_below (λ m. 2 ^ 56 * get_or caps m 0) t.nodes = below_most f (λ m. 2 ^ 56 * get_or caps m 0) t.nodes (λ m lt. mul-le-mul_right (get_or caps m 0) (shared_fits few k (path_of steps m))) in
      let scaled : sum_below (λ m. 2 ^ 56 * get_or caps m 0) t.nodes ≡ 2 ^ 56 * cap_sum t caps = below_scaled (2 ^ 56) (λ m. get_or caps m 0) t.nodes in
      omega (arith, all, scaled)

  -- ---- one step, as code reads it
  pub step_ends : (i : ℕ) (d : Step) → i < length steps → ((get_or steps i d).from < t.nodes) × ((get_or steps i d).to < t.nodes) × ((get_or steps i d).resistor < length t.resistors)
  step_ends i d lt =
      let s = get_or steps i d in
      joined_there t s.resistor s.from s.to sound (g.joins i s (slice_get-get_or steps i d lt))

  pub flow_fits : (first x : List ℕ) (i : ℕ) (d : Step) → i < length steps → cap_sum t first ≤ 2 ^ 46 → IsGathered t steps first x 0 → get_or x (get_or steps i d).to 0 ≤ 2 ^ 46
  flow_fits first x i d lt most w =
      let s = get_or steps i d in
      let flow : get_or x s.to 0 ≡ behind t steps first (length steps) s.resistor = w.after i s (slice_get-get_or steps i d lt) (omega arith) in
      omega (arith, flow, behind_most t steps first (length steps) s.resistor)

  pub sum_fits : (first x sums : List ℕ) (i : ℕ) (d : Step) → i < length steps → length steps < 65536 → cap_sum t first ≤ 2 ^ 46 → IsGathered t steps first x 0 → AreSumsOf t steps first sums i
      → get_or sums (get_or steps i d).from 0 + resistance t (get_or steps i d).resistor * get_or x (get_or steps i d).to 0 ≤ 2 ^ 102
  sum_fits first x sums i d lt few most w h =
      let s = get_or steps i d in
      let at : slice_get steps i ≡ Some s = slice_get-get_or steps i d lt in
      let from : get_or sums s.from 0 ≡ elmore_sum t steps first s.from = h.each s.from (g.from i s at) in
      let flow : get_or x s.to 0 ≡ behind t steps first (length steps) s.resistor = w.after i s at (omega arith) in
      let all : elmore_sum t steps first s.to ≤ 2 ^ 56 * cap_sum t first = elmore_most few first s.to in
      let step = elmore_step first i s at in
      rw (from, flow) (omega (arith, all, step))
