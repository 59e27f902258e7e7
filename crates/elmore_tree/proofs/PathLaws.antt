-- Paths that the steps of a walk make.
use Rattle.std.proofs.Common.{◌≡◌, ℕ, zero, suc, ◌+◌, ◌<◌, ◌≤◌, Bool, true, false, cond, eqb, ◌||◌, List, [], ◌∷◌, length, take, get_or, Some, refl, sym, ap, ◌∙◌, subst, arith, inl, inr, ◌⊎◌}
use Rattle.std.specs.List.{slice_get}
use Rattle.std.proofs.lemmas.Bool.{cases_lt, cases_eq, false≢true, or_left, or_right, or_parts, or_cases, cases_Bool}
use Rattle.std.proofs.lemmas.List.Folds.{list_any_more}
use Rattle.std.proofs.lemmas.List.{take_all}
use Rattle.std.proofs.lemmas.Option.{slice_get_within, slice_get_cases, slice_get_past, get_or_from_slice_get}
use Rattle.elmore_tree.specs.declared.part.Resistor.{Resistor}
use Rattle.elmore_tree.specs.declared.walk.Step.{Step}
use Rattle.elmore_tree.specs.Trees.{TreeParts}
use Rattle.elmore_tree.specs.Paths.{Joins, is_on, IsPath, IsJoined}
use Rattle.elmore_tree.specs.Walks.{leads_to, is_visited, IsGrown, IsWalked, path_by, path_to}
use Rattle.elmore_tree.proofs.Bools.{or_assoc, not_both, eqb_same, eqb_is}
use Rattle.elmore_tree.proofs.SumLaws.{IsOnce}

pub element_at : {X : Type 0} (xs : List X) (i : ℕ) → i < length xs → (x : X) × (slice_get xs i ≡ Some x)
element_at {X} xs i h =
    elim ((slice_get_cases xs i).1) [
      | inl found ↦ (found.0, found.2)
      | inr past ↦ absurd (omega (arith, past.0))
    ]

-- one resistor has two ends
same_ends : (rs : List Resistor) (j a b c d : ℕ) → Joins rs j a b → Joins rs j c d → (b ≡ c) ⊎ (b ≡ d)
same_ends rs j a b c d one two =
    elim (cases_lt j (length rs)) [
      | inl lt ↦
          let r = element_at rs j lt in
          let first : ((r.0.a ≡ a) × (r.0.b ≡ b)) ⊎ ((r.0.a ≡ b) × (r.0.b ≡ a)) = rw r.1 at one in
          let second : ((r.0.a ≡ c) × (r.0.b ≡ d)) ⊎ ((r.0.a ≡ d) × (r.0.b ≡ c)) = rw r.1 at two in
          elim first [
            | inl w ↦ elim second [ inl v ↦ inr (sym w.1 ∙ v.1) | inr v ↦ inl (sym w.1 ∙ v.1) ]
            | inr w ↦ elim second [ inl v ↦ inl (sym w.0 ∙ v.0) | inr v ↦ inr (sym w.0 ∙ v.0) ]
          ]
      | inr past ↦ absurd (rw (slice_get_past rs j past) at one)
    ]

module _ (t : TreeParts) (steps : List Step) (g : IsGrown t steps) where
  pub visited_more : (i : ℕ) (s : Step) (k : ℕ) → slice_get steps i ≡ Some s → is_visited t (take (suc i) steps) k ≡ (is_visited t (take i steps) k || eqb s.to k)
  visited_more i s k at =
      let lt : i < length steps = slice_get_within steps i s at in
      let e : get_or steps i s ≡ s = get_or_from_slice_get steps i s s at in
      let one : leads_to (take (i + 1) steps) k ≡ (leads_to (take i steps) k || eqb (get_or steps i s).to k) = list_any_more (λ (r : Step). eqb r.to k) steps i s lt in
      let n : suc i ≡ i + 1 = omega arith in
      ap (λ m. eqb t.root k || leads_to (take m steps) k) n ∙ ap (λ b. eqb t.root k || b) (one ∙ ap (λ (r : Step). leads_to (take i steps) k || eqb r.to k) e) ∙ or_assoc (eqb t.root k) (leads_to (take i steps) k) (eqb s.to k)

  pub path_more : (i : ℕ) (s : Step) (k : ℕ) → slice_get steps i ≡ Some s → path_to steps (suc i) k ≡ cond (eqb s.to k) (s.resistor ∷ path_to steps i s.from) (path_to steps i k)
  path_more i s k at = ap (λ o. path_by o (path_to steps i) k) at

  -- both ends of each resistor on a path are visited
  on_visited : (i j k a b : ℕ) → i ≤ length steps → is_on (path_to steps i k) j ≡ true → Joins t.resistors j a b → is_visited t (take i steps) b ≡ true
  on_visited zero j k a b le on joins = absurd (false≢true on)
  on_visited (suc i) j k a b le on joins =
      let found = element_at steps i (omega arith) in
      let s = found.0 in
      let old : is_visited t (take i steps) b ≡ true → is_visited t (take (suc i) steps) b ≡ true = λ h. visited_more i s b found.1 ∙ or_left (is_visited t (take i steps) b) (eqb s.to b) h in
      let on_it : is_on (cond (eqb s.to k) (s.resistor ∷ path_to steps i s.from) (path_to steps i k)) j ≡ true = ap (λ p. is_on p j) (sym (path_more i s k found.1)) ∙ on in
      elim (cases_Bool (eqb s.to k)) [
        | inl last ↦
            let split : is_on (s.resistor ∷ path_to steps i s.from) j ≡ true = rw last at on_it in
            elim (or_cases (eqb s.resistor j) (is_on (path_to steps i s.from) j) split) [
              | inl same ↦
                  let joins_s : Joins t.resistors s.resistor a b = rw (eqb_is s.resistor j same) joins in
                  elim (same_ends t.resistors s.resistor a b s.from s.to joins_s (g.joins i s found.1)) [
                    | inl from ↦ old (rw from (g.from i s found.1))
                    | inr to ↦ visited_more i s b found.1 ∙ or_right (is_visited t (take i steps) b) (eqb s.to b) (rw to (eqb_same s.to))
                  ]
              | inr before ↦ old (on_visited i j s.from a b (omega arith) before joins)
            ]
        | inr other ↦ old (on_visited i j k a b (omega arith) (rw other at on_it) joins)
      ]

  -- the resistor of a step is on no path of the steps before it
  pub fresh_on : (i : ℕ) (s : Step) (k : ℕ) → slice_get steps i ≡ Some s → is_on (path_to steps i k) s.resistor ≡ false
  fresh_on i s k at =
      let lt : i < length steps = slice_get_within steps i s at in
      elim (cases_Bool (is_on (path_to steps i k) s.resistor)) [
        | inl on ↦ not_both (is_visited t (take i steps) s.to) (on_visited i s.resistor k s.from s.to (omega arith) on (g.joins i s at)) (g.to i s at)
        | inr off ↦ off
      ]

  pub path_is : (i k : ℕ) → i ≤ length steps → is_visited t (take i steps) k ≡ true → IsPath t k (path_to steps i k)
  path_is zero k le h =
      elim (or_cases (eqb t.root k) false h) [
        | inl e ↦ sym (eqb_is t.root k e)
        | inr never ↦ absurd (false≢true never)
      ]
  path_is (suc i) k le h =
      let found = element_at steps i (omega arith) in
      let s = found.0 in
      elim (cases_Bool (eqb s.to k)) [
        | inl last ↦
            let e : s.to ≡ k = eqb_is s.to k last in
            let joins : Joins t.resistors s.resistor s.from k = rw (← e) (g.joins i s found.1) in
            let whole : IsPath t k (s.resistor ∷ path_to steps i s.from) = (s.from, joins, fresh_on i s s.from found.1, path_is i s.from (omega arith) (g.from i s found.1)) in
            let P : List ℕ → Type 0 = λ p. IsPath t k p in
            subst P (sym (path_more i s k found.1 ∙ ap (λ b. cond b (s.resistor ∷ path_to steps i s.from) (path_to steps i k)) last)) whole
        | inr other ↦
            let earlier : is_visited t (take i steps) k ≡ true = elim (or_cases (is_visited t (take i steps) k) (eqb s.to k) (sym (visited_more i s k found.1) ∙ h)) [
              | inl v ↦ v
              | inr v ↦ not_both (eqb s.to k) v other
            ] in
            let P : List ℕ → Type 0 = λ p. IsPath t k p in
            subst P (sym (path_more i s k found.1 ∙ ap (λ b. cond b (s.resistor ∷ path_to steps i s.from) (path_to steps i k)) other)) (path_is i k (omega arith) earlier)
      ]

  -- a node that is visited keeps its path and stays visited
  step_keeps : (i : ℕ) (s : Step) (k : ℕ) → slice_get steps i ≡ Some s → is_visited t (take i steps) k ≡ true → (path_to steps (suc i) k ≡ path_to steps i k) × (is_visited t (take (suc i) steps) k ≡ true)
  step_keeps i s k at h =
      let other : eqb s.to k ≡ false = elim (cases_Bool (eqb s.to k)) [
        | inl e ↦ not_both (is_visited t (take i steps) k) h (rw (← eqb_is s.to k e) (g.to i s at))
        | inr differs ↦ differs
      ] in
      (path_more i s k at ∙ ap (λ b. cond b (s.resistor ∷ path_to steps i s.from) (path_to steps i k)) other, visited_more i s k at ∙ or_left (is_visited t (take i steps) k) (eqb s.to k) h)

  pub path_kept : (i m k : ℕ) → i ≤ m → m ≤ length steps → is_visited t (take i steps) k ≡ true → (path_to steps m k ≡ path_to steps i k) × (is_visited t (take m steps) k ≡ true)
  path_kept i zero k im le h = let e : i ≡ 0 = omega arith in (ap (λ n. path_to steps n k) (sym e), rw e at h)
  path_kept i (suc m) k im le h =
      elim (cases_eq i (suc m)) [
        | inl e ↦ (ap (λ n. path_to steps n k) (sym e), rw e at h)
        | inr ne ↦
            let before = path_kept i m k (omega arith) (omega arith) h in
            let found = element_at steps m (omega arith) in
            let more = step_keeps m found.0 k found.1 before.1 in
            (more.0 ∙ before.0, more.1)
      ]

  -- a node that is not visited has the empty path
  pub path_none : (i k : ℕ) → i ≤ length steps → is_visited t (take i steps) k ≡ false → path_to steps i k ≡ []
  path_none zero k le h = refl
  path_none (suc i) k le h =
      let found = element_at steps i (omega arith) in
      let s = found.0 in
      let parts : (is_visited t (take i steps) k ≡ false) × (eqb s.to k ≡ false) = or_parts (is_visited t (take i steps) k) (eqb s.to k) (sym (visited_more i s k found.1) ∙ h) in
      path_more i s k found.1 ∙ ap (λ b. cond b (s.resistor ∷ path_to steps i s.from) (path_to steps i k)) parts.1 ∙ path_none i k (omega arith) parts.0

  pub path_root : (i : ℕ) → i ≤ length steps → path_to steps i t.root ≡ []
  path_root i le = (path_kept 0 i t.root (omega arith) le (or_left (eqb t.root t.root) false (eqb_same t.root))).0

  pub path_once : (i k : ℕ) → i ≤ length steps → IsOnce (path_to steps i k)
  path_once zero k le = tt
  path_once (suc i) k le =
      let found = element_at steps i (omega arith) in
      let s = found.0 in
      let P : List ℕ → Type 0 = λ p. IsOnce p in
      elim (cases_Bool (eqb s.to k)) [
        | inl last ↦
            let both : IsOnce (s.resistor ∷ path_to steps i s.from) = (fresh_on i s s.from found.1, path_once i s.from (omega arith)) in
            subst P (sym (path_more i s k found.1 ∙ ap (λ b. cond b (s.resistor ∷ path_to steps i s.from) (path_to steps i k)) last)) both
        | inr other ↦ subst P (sym (path_more i s k found.1 ∙ ap (λ b. cond b (s.resistor ∷ path_to steps i s.from) (path_to steps i k)) other)) (path_once i k (omega arith))
      ]

  pub path_short : (i k : ℕ) → i ≤ length steps → length (path_to steps i k) ≤ i
  path_short zero k le = omega arith
  path_short (suc i) k le =
      let found = element_at steps i (omega arith) in
      let s = found.0 in
      elim (cases_Bool (eqb s.to k)) [
        | inl last ↦
            let e : length (path_to steps (suc i) k) ≡ length (s.resistor ∷ path_to steps i s.from) = ap length (path_more i s k found.1 ∙ ap (λ b. cond b (s.resistor ∷ path_to steps i s.from) (path_to steps i k)) last) in
            let rest = path_short i s.from (omega arith) in
            omega (arith, rest)
        | inr other ↦
            let e : length (path_to steps (suc i) k) ≡ length (path_to steps i k) = ap length (path_more i s k found.1 ∙ ap (λ b. cond b (s.resistor ∷ path_to steps i s.from) (path_to steps i k)) other) in
            let rest = path_short i k (omega arith) in
            omega (arith, rest)
      ]

-- the path to the end of a step goes on from the path to where it starts
pub path_of_end : (t : TreeParts) (steps : List Step) (g : IsGrown t steps) (i : ℕ) (s : Step) → slice_get steps i ≡ Some s
    → path_to steps (length steps) s.to ≡ s.resistor ∷ path_to steps (length steps) s.from
path_of_end t steps g i s at =
    let lt : i < length steps = slice_get_within steps i s at in
    let made : path_to steps (suc i) s.to ≡ s.resistor ∷ path_to steps i s.from = path_more t steps g i s s.to at ∙ ap (λ b. cond b (s.resistor ∷ path_to steps i s.from) (path_to steps i s.to)) (eqb_same s.to) in
    let is_end : is_visited t (take (suc i) steps) s.to ≡ true = visited_more t steps g i s s.to at ∙ or_right (is_visited t (take i steps) s.to) (eqb s.to s.to) (eqb_same s.to) in
    let kept = (path_kept t steps g (suc i) (length steps) s.to (omega arith) (omega arith) is_end).0 in
    let from = (path_kept t steps g i (length steps) s.from (omega arith) (omega arith) (g.from i s at)).0 in
    kept ∙ made ∙ ap (λ p. s.resistor ∷ p) (sym from)

-- ---- the end of a walk
pub take_whole : (steps : List Step) → take (length steps) steps ≡ steps
take_whole steps = take_all (length steps) steps (omega arith)

pub visited_joined : (t : TreeParts) (steps : List Step) (k : ℕ) → IsGrown t steps → is_visited t steps k ≡ true → IsJoined t k
visited_joined t steps k g h = (path_to steps (length steps) k, path_is t steps g (length steps) k (omega arith) (ap (λ ss. is_visited t ss k) (take_whole steps) ∙ h))

pub joined_visited : (t : TreeParts) (reached : List Bool) (steps : List Step) → IsWalked t reached steps → (path : List ℕ) (k : ℕ) → IsPath t k path → is_visited t steps k ≡ true
joined_visited t reached steps w [] k h = or_left (eqb t.root k) (leads_to steps k) (rw h (eqb_same t.root))
joined_visited t reached steps w (j ∷ path) k h = sym (w.marks k) ∙ (w.spread.each h.0 (joined_visited t reached steps w path h.0 h.3)).each j k h.1
