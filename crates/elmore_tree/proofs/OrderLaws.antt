-- Paths in the order of a walk, and the resistance that they have in common.
use Rattle.std.proofs.Common.{◌≡◌, ℕ, zero, suc, ◌+◌, ◌-◌, ◌<◌, ◌≤◌, true, false, cond, eqb, List, [], ◌∷◌, ◌++◌, length, drop, Some, refl, sym, ap, ◌∙◌, subst, arith, inl, inr, ◌⊎◌}
use Rattle.std.specs.List.{slice_get, sum_by}
use Rattle.std.proofs.lemmas.Bool.{cases_lt, or_left, or_right, cases_Bool}
use Rattle.std.proofs.lemmas.List.{drop-drop, length_push}
use Rattle.std.proofs.lemmas.List.Sums.{sum_by-cons, sum_by-take-drop}
use Rattle.std.proofs.lemmas.Option.{slice_get_within, none-some}
use Rattle.elmore_tree.specs.declared.walk.Step.{Step}
use Rattle.elmore_tree.specs.Trees.{TreeParts}
use Rattle.elmore_tree.specs.Paths.{is_on}
use Rattle.elmore_tree.specs.Sums.{shared, resistance}
use Rattle.elmore_tree.specs.Walks.{is_visited, path_by, path_to, path_of, node_at, end_of, IsAbove, IsStack}
use Rattle.elmore_tree.specs.Orders.{path_resistance}
use Rattle.elmore_tree.proofs.Bools.{not_both, eqb_same, eqb_is, slice_get_push}
use Rattle.elmore_tree.proofs.SumLaws.{term, shared_more}
use Rattle.elmore_tree.proofs.PathLaws.{element_at}

-- ---- a path above another
pub above_same : (p : List ℕ) → IsAbove p p
above_same p = (0, refl)

pub above_more : (p q : List ℕ) (j : ℕ) → IsAbove p q → IsAbove p (j ∷ q)
above_more p q j w = (suc w.0, w.1)

pub above_both : (p q r : List ℕ) → IsAbove p q → IsAbove q r → IsAbove p r
above_both p q r w v = (v.0 + w.0, w.1 ∙ (ap (drop w.0) v.1 ∙ drop-drop w.0 v.0 r))

-- of two paths above a third one is above the other
pub above_nested : (p q r : List ℕ) → IsAbove p r → IsAbove q r → IsAbove p q ⊎ IsAbove q p
above_nested p q r w v =
    elim (cases_lt w.0 v.0) [
      | inl lt ↦ inr (nested q p r v.0 w.0 v.1 w.1 (omega arith))
      | inr le ↦ inl (nested p q r w.0 v.0 w.1 v.1 (omega arith))
    ]
  where
    nested : (p q r : List ℕ) (m n : ℕ) → p ≡ drop m r → q ≡ drop n r → n ≤ m → IsAbove p q
    nested p q r m n e f le =
        let sum : n + (m - n) ≡ m = omega arith in
        (m - n, e ∙ (ap (λ k. drop k r) (sym sum) ∙ (sym (drop-drop (m - n) n r) ∙ ap (drop (m - n)) (sym f))))

on_drop : (n : ℕ) (q : List ℕ) (j : ℕ) → is_on (drop n q) j ≡ true → is_on q j ≡ true
on_drop zero q j h = h
on_drop (suc n) [] j h = h
on_drop (suc n) (i ∷ q) j h = or_right (eqb i j) (is_on q j) (on_drop n q j h)

sum_drop : (f : ℕ → ℕ) (q : List ℕ) (n : ℕ) → sum_by f (drop n q) ≤ sum_by f q
sum_drop f q n = let e = sum_by-take-drop f q n in omega (arith, e)

-- ---- what a path shares with one above it
all_shared : (t : TreeParts) (p q : List ℕ) → ((j : ℕ) → is_on p j ≡ true → is_on q j ≡ true) → shared t p q ≡ path_resistance t p
all_shared t [] q h = refl
all_shared t (j ∷ p) q h =
    let a = shared_more t j p q in
    let b = sum_by-cons (resistance t) j p in
    let rest : shared t p q ≡ path_resistance t p = all_shared t p q (λ i on. h i (or_right (eqb j i) (is_on p i) on)) in
    let one : term t q j ≡ resistance t j = ap (λ c. cond c (resistance t j) 0) (h j (or_left (eqb j j) (is_on p j) (eqb_same j))) in
    omega (arith, a, b, rest, one)

pub shared_above : (t : TreeParts) (p q : List ℕ) → IsAbove p q → shared t p q ≡ path_resistance t p
shared_above t p q w = all_shared t p q (λ j on. on_drop w.0 q j (ap (λ x. is_on x j) (sym w.1) ∙ on))

pub resistance_above : (t : TreeParts) (p q : List ℕ) → IsAbove p q → path_resistance t p ≤ path_resistance t q
resistance_above t p q w = rw w.1 (sum_drop (resistance t) q w.0)

pub shared_less : (t : TreeParts) (p q r : List ℕ) → IsAbove p q → shared t p r ≤ shared t q r
shared_less t p q r w = rw w.1 (sum_drop (term t r) q w.0)

pub shared_self : (t : TreeParts) (p : List ℕ) → shared t p p ≡ path_resistance t p
shared_self t p = shared_above t p p (above_same p)

pub above_by : (p q x y : List ℕ) → p ≡ x → q ≡ y → IsAbove p q → IsAbove x y
above_by p q x y e f w = (w.0, sym e ∙ (w.1 ∙ ap (drop w.0) f))

-- ---- one more step
last_pushed : {X : Type 0} (xs : List X) (x : X) → slice_get (xs ++ x ∷ []) (length xs) ≡ Some x
last_pushed [] x = refl
last_pushed (y ∷ ys) x = last_pushed ys x

earlier_pushed : {X : Type 0} (xs : List X) (x : X) (i : ℕ) (y : X) → slice_get xs i ≡ Some y → slice_get (xs ++ x ∷ []) i ≡ Some y
earlier_pushed [] x i y at = absurd (none-some y at)
earlier_pushed (z ∷ zs) x zero y at = at
earlier_pushed (z ∷ zs) x (suc i) y at = earlier_pushed zs x i y at

length_more : (steps : List Step) (x : Step) → length (steps ++ x ∷ []) ≡ suc (length steps)
length_more steps x = let e = length_push steps x in omega (arith, e)

pub node_last : (t : TreeParts) (steps : List Step) (x : Step) → node_at t (steps ++ x ∷ []) (length (steps ++ x ∷ [])) ≡ x.to
node_last t steps x = ap (λ n. node_at t (steps ++ x ∷ []) n) (length_more steps x) ∙ ap (end_of t) (last_pushed steps x)

node_push : (t : TreeParts) (steps : List Step) (x : Step) (i : ℕ) → i ≤ length steps → node_at t (steps ++ x ∷ []) i ≡ node_at t steps i
node_push t steps x zero le = refl
node_push t steps x (suc i) le =
    let found = element_at steps i (omega arith) in
    ap (end_of t) (earlier_pushed steps x i found.0 found.1 ∙ sym found.1)

path_push : (steps : List Step) (x : Step) (i k : ℕ) → i ≤ length steps → path_to (steps ++ x ∷ []) i k ≡ path_to steps i k
path_push steps x zero k le = refl
path_push steps x (suc i) k le =
    let found = element_at steps i (omega arith) in
    let s = found.0 in
    let from : path_to (steps ++ x ∷ []) i s.from ≡ path_to steps i s.from = path_push steps x i s.from (omega arith) in
    let here : path_to (steps ++ x ∷ []) i k ≡ path_to steps i k = path_push steps x i k (omega arith) in
    let choice : cond (eqb s.to k) (s.resistor ∷ path_to (steps ++ x ∷ []) i s.from) (path_to (steps ++ x ∷ []) i k) ≡ cond (eqb s.to k) (s.resistor ∷ path_to steps i s.from) (path_to steps i k) =
    ap (λ p. cond (eqb s.to k) (s.resistor ∷ p) (path_to (steps ++ x ∷ []) i k)) from ∙ ap (λ p. cond (eqb s.to k) (s.resistor ∷ path_to steps i s.from) p) here in
    ap (λ o. path_by o (path_to (steps ++ x ∷ []) i) k) (earlier_pushed steps x i s found.1) ∙ (choice ∙ sym (ap (λ o. path_by o (path_to steps i) k) found.1))

path_of_push : (steps : List Step) (x : Step) (k : ℕ) → path_of (steps ++ x ∷ []) k ≡ cond (eqb x.to k) (x.resistor ∷ path_of steps x.from) (path_of steps k)
path_of_push steps x k =
    let n : ℕ = length steps in
    let from : path_to (steps ++ x ∷ []) n x.from ≡ path_to steps n x.from = path_push steps x n x.from (omega arith) in
    let here : path_to (steps ++ x ∷ []) n k ≡ path_to steps n k = path_push steps x n k (omega arith) in
    ap (λ m. path_to (steps ++ x ∷ []) m k) (length_more steps x) ∙ (ap (λ o. path_by o (path_to (steps ++ x ∷ []) n) k) (last_pushed steps x)
    ∙ (ap (λ p. cond (eqb x.to k) (x.resistor ∷ p) (path_to (steps ++ x ∷ []) n k)) from ∙ ap (λ p. cond (eqb x.to k) (x.resistor ∷ path_to steps n x.from) p) here))

-- ---- the pending steps of a walk
pub stack_begins : (t : TreeParts) → IsStack t [] []
stack_begins t = record {
  order = record { each = λ i s at. absurd (none-some s at) };
  here = λ i s at. absurd (none-some s at);
  down = λ i j r s le at_i at_j. absurd (none-some r at_i);
}

pub stack_reaches : (t : TreeParts) (steps pending : List Step) (s : Step) → IsStack t steps pending → s.from ≡ node_at t steps (length steps) → IsStack t steps (pending ++ s ∷ [])
stack_reaches t steps pending s w last = record {
  order = w.order;
  here = λ i r at. elim (slice_get_push pending s i r at) [
    | inl old ↦ w.here i r old.1
    | inr new ↦ let P : Step → Type 0 = λ q. IsAbove (path_of steps q.from) (path_of steps (node_at t steps (length steps))) in subst P new.1 at_last
  ];
  down = λ i j r q le at_i at_j. elim (slice_get_push pending s j q at_j) [
    | inl old_j ↦ elim (slice_get_push pending s i r at_i) [
      | inl old_i ↦ w.down i j r q le old_i.1 old_j.1
      | inr new_i ↦ absurd (let a : i ≡ length pending = new_i.0 in let b : j < length pending = old_j.0 in omega arith)
    ]
    | inr new_j ↦
        let P : Step → Type 0 = λ z. IsAbove (path_of steps r.from) (path_of steps z.from) in
        subst P new_j.1 (elim (slice_get_push pending s i r at_i) [
          | inl old_i ↦ above_by (path_of steps r.from) (path_of steps (node_at t steps (length steps))) (path_of steps r.from) (path_of steps s.from) refl (ap (path_of steps) (sym last)) (w.here i r old_i.1)
          | inr new_i ↦ let Q : Step → Type 0 = λ z. IsAbove (path_of steps z.from) (path_of steps s.from) in subst Q new_i.1 (above_same (path_of steps s.from))
        ])
  ];
}
  where
    at_last : IsAbove (path_of steps s.from) (path_of steps (node_at t steps (length steps)))
    at_last = above_by (path_of steps s.from) (path_of steps s.from) (path_of steps s.from) (path_of steps (node_at t steps (length steps))) refl (ap (path_of steps) last) (above_same (path_of steps s.from))

pub stack_goes : (t : TreeParts) (steps rest : List Step) (s : Step) → IsStack t steps (rest ++ s ∷ [])
    → ((i : ℕ) (r : Step) → slice_get (rest ++ s ∷ []) i ≡ Some r → is_visited t steps r.from ≡ true) → is_visited t steps s.to ≡ false → IsStack t (steps ++ s ∷ []) rest
stack_goes t steps rest s w from to = record {
  order = record {
    each = λ i r at. elim (slice_get_push steps s i r at) [
      | inl old ↦
          let lt : i < length steps = old.0 in
          above_by (path_to steps i r.from) (path_to steps i (node_at t steps i)) (path_to (steps ++ s ∷ []) i r.from) (path_to (steps ++ s ∷ []) i (node_at t (steps ++ s ∷ []) i))
          (sym (path_push steps s i r.from (omega arith)))
          (sym (path_push steps s i (node_at t steps i) (omega arith)) ∙ ap (λ k. path_to (steps ++ s ∷ []) i k) (sym (node_push t steps s i (omega arith))))
          (w.order.each i r old.1)
      | inr new ↦
          let n : ℕ = length steps in
          let P : Step → Type 0 = λ q. IsAbove (path_to (steps ++ s ∷ []) n q.from) (path_to (steps ++ s ∷ []) n (node_at t (steps ++ s ∷ []) n)) in
          let Q : ℕ → Type 0 = λ m. IsAbove (path_to (steps ++ s ∷ []) m r.from) (path_to (steps ++ s ∷ []) m (node_at t (steps ++ s ∷ []) m)) in
          subst Q (sym new.0) (subst P new.1 (above_by (path_to steps n s.from) (path_to steps n (node_at t steps n)) (path_to (steps ++ s ∷ []) n s.from) (path_to (steps ++ s ∷ []) n (node_at t (steps ++ s ∷ []) n))
          (sym (path_push steps s n s.from (omega arith)))
          (sym (path_push steps s n (node_at t steps n) (omega arith)) ∙ ap (λ k. path_to (steps ++ s ∷ []) n k) (sym (node_push t steps s n (omega arith))))
          (w.here (length rest) s at_end)))
    ];
  };
  here = λ i r at.
      let le : i < length rest = slice_get_within rest i r at in
      let down : IsAbove (path_of steps r.from) (path_of steps s.from) = w.down i (length rest) r s (omega arith) (earlier_pushed rest s i r at) at_end in
      above_by (path_of steps r.from) (s.resistor ∷ path_of steps s.from) (path_of (steps ++ s ∷ []) r.from) (path_of (steps ++ s ∷ []) (node_at t (steps ++ s ∷ []) (length (steps ++ s ∷ []))))
      (sym (kept i r at))
      (sym (path_of_push steps s s.to ∙ ap (λ b. cond b (s.resistor ∷ path_of steps s.from) (path_of steps s.to)) (eqb_same s.to)) ∙ ap (path_of (steps ++ s ∷ [])) (sym (node_last t steps s)))
      (above_more (path_of steps r.from) (path_of steps s.from) s.resistor down);
  down = λ i j r q le at_i at_j.
      above_by (path_of steps r.from) (path_of steps q.from) (path_of (steps ++ s ∷ []) r.from) (path_of (steps ++ s ∷ []) q.from) (sym (kept i r at_i)) (sym (kept j q at_j))
      (w.down i j r q le (earlier_pushed rest s i r at_i) (earlier_pushed rest s j q at_j));
}
  where
    at_end : slice_get (rest ++ s ∷ []) (length rest) ≡ Some s
    at_end = last_pushed rest s

    kept : (i : ℕ) (r : Step) → slice_get rest i ≡ Some r → path_of (steps ++ s ∷ []) r.from ≡ path_of steps r.from
    kept i r at =
        let other : eqb s.to r.from ≡ false = elim (cases_Bool (eqb s.to r.from)) [
          | inl e ↦ not_both (is_visited t steps r.from) (from i r (earlier_pushed rest s i r at)) (rw (eqb_is s.to r.from e) at to)
          | inr differs ↦ differs
        ] in
        path_of_push steps s r.from ∙ ap (λ b. cond b (s.resistor ∷ path_of steps s.from) (path_of steps r.from)) other
