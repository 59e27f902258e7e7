-- What the paths to three nodes have in common, where the nodes stand in the order of a walk.
use Rattle.std.proofs.Common.{◌≡◌, ℕ, zero, suc, ◌<◌, ◌≤◌, true, false, eqb, List, ◌∷◌, length, take, Some, refl, sym, ap, ◌∙◌, arith, inl, inr, min, subst}
use Rattle.std.specs.List.{slice_get}
use Rattle.std.proofs.lemmas.Bool.{cases_eq, or_left, or_right}
use Rattle.std.proofs.lemmas.Option.{slice_get_within}
use Rattle.elmore_tree.specs.declared.walk.Step.{Step}
use Rattle.elmore_tree.specs.Trees.{TreeParts}
use Rattle.elmore_tree.specs.Paths.{is_on}
use Rattle.elmore_tree.specs.Sums.{shared}
use Rattle.elmore_tree.specs.Walks.{is_visited, IsGrown, IsPreorder, IsAbove, node_at, end_of, path_to, path_of}
use Rattle.elmore_tree.specs.Orders.{path_resistance, common}
use Rattle.elmore_tree.proofs.Bools.{eqb_same}
use Rattle.elmore_tree.proofs.SumLaws.{shared_apart, shared_swaps}
use Rattle.elmore_tree.proofs.PathLaws.{element_at, visited_more, path_kept, path_of_end, fresh_on, path_once}
use Rattle.elmore_tree.proofs.OrderLaws.{above_same, above_more, above_both, above_nested, above_by, shared_above, resistance_above, shared_less, shared_self}

min_first : (a b : ℕ) → a ≤ b → min a b ≡ a
min_first a b le = omega arith

min_second : (a b : ℕ) → b ≤ a → min a b ≡ b
min_second a b le = omega arith

min_three : (a b c : ℕ) → min (min a b) c ≡ min a (min b c)
min_three a b c = omega arith

-- the paths to the nodes at two places part at the end of m
record IsMeet (t : TreeParts) (steps : List Step) (a c : ℕ) (m : List ℕ) : Type 0 where
  pub first : IsAbove m (path_of steps (node_at t steps a))
  pub second : IsAbove m (path_of steps (node_at t steps c))
  pub all : common t steps a c ≡ path_resistance t m

module _ (t : TreeParts) (steps : List Step) (g : IsGrown t steps) (order : IsPreorder t steps) where
  pub node_visited : (i : ℕ) → i ≤ length steps → is_visited t (take i steps) (node_at t steps i) ≡ true
  node_visited zero le = or_left (eqb t.root t.root) false (eqb_same t.root)
  node_visited (suc i) le =
      let found = element_at steps i (omega arith) in
      let s = found.0 in
      ap (λ k. is_visited t (take (suc i) steps) k) (ap (end_of t) found.1) ∙ (visited_more t steps g i s s.to found.1 ∙ or_right (is_visited t (take i steps) s.to) (eqb s.to s.to) (eqb_same s.to))

  pub common_swaps : (a b : ℕ) → common t steps a b ≡ common t steps b a
  common_swaps a b = shared_swaps t (path_of steps (node_at t steps a)) (path_of steps (node_at t steps b))
      (path_once t steps g (length steps) (node_at t steps a) (omega arith)) (path_once t steps g (length steps) (node_at t steps b) (omega arith))

  step_above : (i : ℕ) (s : Step) → slice_get steps i ≡ Some s → IsAbove (path_of steps s.from) (path_of steps (node_at t steps i))
  step_above i s at =
      let lt : i < length steps = slice_get_within steps i s at in
      above_by (path_to steps i s.from) (path_to steps i (node_at t steps i)) (path_of steps s.from) (path_of steps (node_at t steps i))
      (sym (path_kept t steps g i (length steps) s.from (omega arith) (omega arith) (g.from i s at)).0)
      (sym (path_kept t steps g i (length steps) (node_at t steps i) (omega arith) (omega arith) (node_visited i (omega arith))).0)
      (order.each i s at)

  path_at_end : (c : ℕ) (s : Step) → slice_get steps c ≡ Some s → path_of steps (node_at t steps (suc c)) ≡ s.resistor ∷ path_of steps s.from
  path_at_end c s at = ap (path_of steps) (ap (end_of t) at) ∙ path_of_end t steps g c s at

  -- what is new on the path to the end of a step is on no path to a node before it
  common_step : (a c : ℕ) (s : Step) → slice_get steps c ≡ Some s → a ≤ c → common t steps a (suc c) ≡ shared t (path_of steps (node_at t steps a)) (path_of steps s.from)
  common_step a c s at le =
      let lt : c < length steps = slice_get_within steps c s at in
      let k : ℕ = node_at t steps a in
      let visited = node_visited a (omega arith) in
      let kept : path_of steps k ≡ path_to steps c k = (path_kept t steps g a (length steps) k (omega arith) (omega arith) visited).0 ∙ sym (path_kept t steps g a c k le (omega arith) visited).0 in
      let off : is_on (path_of steps k) s.resistor ≡ false = ap (λ p. is_on p s.resistor) kept ∙ fresh_on t steps g c s k at in
      ap (shared t (path_of steps k)) (path_at_end c s at) ∙ shared_apart t s.resistor (path_of steps k) (path_of steps s.from) off

  meet_self : (a : ℕ) → IsMeet t steps a a (path_of steps (node_at t steps a))
  meet_self a = record {
    first = above_same (path_of steps (node_at t steps a));
    second = above_same (path_of steps (node_at t steps a));
    all = shared_self t (path_of steps (node_at t steps a));
  }

  meet_turn : (a c : ℕ) (s : Step) (m : List ℕ) → slice_get steps c ≡ Some s → a ≤ c → IsMeet t steps a c m
      → (n : List ℕ) × IsMeet t steps a (suc c) n × (common t steps a (suc c) ≡ min (common t steps a c) (path_resistance t (path_of steps s.from)))
  meet_turn a c s m at le w =
      let lt : c < length steps = slice_get_within steps c s at in
      let p : List ℕ = path_of steps (node_at t steps a) in
      let q : List ℕ = path_of steps (node_at t steps c) in
      let f : List ℕ = path_of steps s.from in
      let once_p = path_once t steps g (length steps) (node_at t steps a) (omega arith) in
      let once_f = path_once t steps g (length steps) s.from (omega arith) in
      let is_step : common t steps a (suc c) ≡ shared t p f = common_step a c s at le in
      let swapped : shared t p f ≡ shared t f p = shared_swaps t p f once_p once_f in
      let above : IsAbove f q = step_above c s at in
      let ended = path_at_end c s at in
      let is_all : common t steps a c ≡ path_resistance t m = w.all in
      elim (above_nested m f q w.second above) [
        | inl under ↦
            let low : shared t m p ≤ shared t f p = shared_less t m f p under in
            let its : shared t m p ≡ path_resistance t m = shared_above t m p w.first in
            let high : shared t f p ≤ shared t q p = shared_less t f q p above in
            let whole : shared t q p ≡ common t steps a c = common_swaps c a in
            let size : path_resistance t m ≤ path_resistance t f = resistance_above t m f under in
            let value : common t steps a (suc c) ≡ path_resistance t m = omega (arith, is_step, swapped, low, its, high, whole, is_all) in
            let least : min (common t steps a c) (path_resistance t f) ≡ common t steps a c = min_first (common t steps a c) (path_resistance t f) (omega (arith, is_all, size)) in (
              m,
              record {
                first = w.first;
                second = above_by m (s.resistor ∷ f) m (path_of steps (node_at t steps (suc c))) refl (sym ended) (above_more m f s.resistor under);
                all = value;
              },
              omega (arith, value, least, is_all),
            )
        | inr over ↦
            let on_first : IsAbove f p = above_both f m p over w.first in
            let its : shared t f p ≡ path_resistance t f = shared_above t f p on_first in
            let size : path_resistance t f ≤ path_resistance t m = resistance_above t f m over in
            let value : common t steps a (suc c) ≡ path_resistance t f = omega (arith, is_step, swapped, its) in
            let least : min (common t steps a c) (path_resistance t f) ≡ path_resistance t f = min_second (common t steps a c) (path_resistance t f) (omega (arith, is_all, size)) in (
              f,
              record {
                first = on_first;
                second = above_by f (s.resistor ∷ f) f (path_of steps (node_at t steps (suc c))) refl (sym ended) (above_more f f s.resistor (above_same f));
                all = value;
              },
              omega (arith, value, least),
            )
      ]

  meets : (a c : ℕ) → a ≤ c → c ≤ length steps → (m : List ℕ) × IsMeet t steps a c m
  meets a zero le most =
      let e : 0 ≡ a = omega arith in
      let P : ℕ → Type 0 = λ k. (m : List ℕ) × IsMeet t steps k 0 m in
      subst P e (path_of steps (node_at t steps 0), meet_self 0)
  meets a (suc c) le most =
      elim (cases_eq (suc c) a) [
        | inl e ↦ let P : ℕ → Type 0 = λ k. (m : List ℕ) × IsMeet t steps k (suc c) m in subst P e (path_of steps (node_at t steps (suc c)), meet_self (suc c))
        | inr ne ↦
            let found = element_at steps c (omega arith) in
            let before = meets a c (omega arith) (omega arith) in
            let turn = meet_turn a c found.0 before.0 found.1 (omega arith) before.1 in
            (turn.0, turn.1)
      ]

  -- the next node has in common what its step leaves
  pub common_turn : (a c : ℕ) (s : Step) → slice_get steps c ≡ Some s → a ≤ c → common t steps a (suc c) ≡ min (common t steps a c) (path_resistance t (path_of steps s.from))
  common_turn a c s at le =
      let lt : c < length steps = slice_get_within steps c s at in
      let before = meets a c le (omega arith) in
      (meet_turn a c s before.0 at le before.1).2

  pub common_self : (a : ℕ) → common t steps a a ≡ path_resistance t (path_of steps (node_at t steps a))
  common_self a = shared_self t (path_of steps (node_at t steps a))

  pub common_most : (a c : ℕ) → a ≤ c → c ≤ length steps → common t steps a c ≤ common t steps c c
  common_most a c le most =
      let w = meets a c le most in
      let size = resistance_above t w.0 (path_of steps (node_at t steps c)) w.1.second in
      let e = common_self c in
      let all = w.1.all in
      omega (arith, size, e, all)

  pub common_next : (c : ℕ) (s : Step) → slice_get steps c ≡ Some s → common t steps c (suc c) ≡ path_resistance t (path_of steps s.from)
  common_next c s at =
      let turn : common t steps c (suc c) ≡ min (common t steps c c) (path_resistance t (path_of steps s.from)) = common_turn c c s at (omega arith) in
      let size : path_resistance t (path_of steps s.from) ≤ path_resistance t (path_of steps (node_at t steps c)) = resistance_above t (path_of steps s.from) (path_of steps (node_at t steps c)) (step_above c s at) in
      let e = common_self c in
      turn ∙ min_second (common t steps c c) (path_resistance t (path_of steps s.from)) (omega (arith, size, e))

  -- the first and the third node have in common the lesser of what each has with the second
  pub common_three : (a b c : ℕ) → a ≤ b → b ≤ c → c ≤ length steps → common t steps a c ≡ min (common t steps a b) (common t steps b c)
  common_three a b zero ab bc most =
      let e : 0 ≡ b = omega arith in
      rw (← e) (sym (min_first (common t steps a 0) (common t steps 0 0) (common_most a 0 (omega arith) most)))
  common_three a b (suc c) ab bc most =
      elim (cases_eq (suc c) b) [
        | inl e ↦ rw (← e) (sym (min_first (common t steps a (suc c)) (common t steps (suc c) (suc c)) (common_most a (suc c) (omega arith) most)))
        | inr ne ↦
            let found = element_at steps c (omega arith) in
            let r : ℕ = path_resistance t (path_of steps found.0.from) in
            let before : common t steps a c ≡ min (common t steps a b) (common t steps b c) = common_three a b c ab (omega arith) (omega arith) in
            let long : common t steps a (suc c) ≡ min (common t steps a c) r = common_turn a c found.0 found.1 (omega arith) in
            let short : common t steps b (suc c) ≡ min (common t steps b c) r = common_turn b c found.0 found.1 (omega arith) in
            long ∙ (ap (λ n. min n r) before ∙ (min_three (common t steps a b) (common t steps b c) r ∙ ap (min (common t steps a b)) (sym short)))
      ]
