-- A node that has to be reached is one of the tree.
use Rattle.std.proofs.Common.{◌≡◌, ℕ, suc, ◌<◌, Bool, true, false, eqb, ltb, ◌||◌, List, [], ◌∷◌, refl, ap, arith, subst, inl, inr}
use Rattle.std.specs.Prelude.{pos}
use Rattle.std.specs.Int.RustNames.{unsigned_abs}
use Rattle.std.specs.List.{All, list_any}
use Rattle.std.proofs.lemmas.Bool.{cases_lt, false≢true, eqb-true}
use Rattle.std.proofs.lemmas.List.{get_or_past}
use Rattle.elmore_tree.specs.declared.part.Tap.{Tap}
use Rattle.elmore_tree.specs.Trees.{TreeParts, IsSoundTree, ground_at, is_needed}

or_by : (Q : Type 0) (a b : Bool) → (a || b) ≡ true → (a ≡ true → Q) → (b ≡ true → Q) → Q
or_by Q true b e h k = h refl
or_by Q false b e h k = k e

any_below : {X : Type 0} (f : X → ℕ) (xs : List X) (k n : ℕ) → All (λ x. f x < n) xs → list_any (λ x. eqb (f x) k) xs ≡ true → k < n
any_below f [] k n all e = absurd (false≢true e)
any_below f (x ∷ xs) k n all e =
    or_by (k < n) (eqb (f x) k) (list_any (λ y. eqb (f y) k) xs) e
    (λ same. let at : f x ≡ k = eqb-true (f x) k same in let one : f x < n = all 0 x (omega arith) in omega (arith, at, one))
    (λ rest. any_below f xs k n (λ i d lt. all (suc i) d (omega (arith, lt))) rest)

pub needed_there : (t : TreeParts) (k : ℕ) → IsSoundTree t → is_needed t k ≡ true → k < t.nodes
needed_there t k sound e =
    or_by (k < t.nodes) (ltb 0 (ground_at t k)) (list_any (λ p. eqb p k) t.sinks || list_any (λ (tap : Tap). eqb tap.node k) t.taps) e
    (λ some. grounded some)
    (λ more. or_by (k < t.nodes) (list_any (λ p. eqb p k) t.sinks) (list_any (λ (tap : Tap). eqb tap.node k) t.taps) more
    (λ sink. any_below (λ p. p) t.sinks k t.nodes sound.sinks sink)
    (λ tap. any_below (λ (x : Tap). x.node) t.taps k t.nodes (λ i d lt. let one = sound.taps i d lt in one.node) tap))
  where
    grounded : ltb 0 (ground_at t k) ≡ true → k < t.nodes
    grounded some = elim (cases_lt k t.nodes) [
      | inl lt ↦ lt
      | inr past ↦
          let len = sound.grounds in
          let zero_here : ground_at t k ≡ 0 = ap unsigned_abs (get_or_past t.ground k (pos 0) (omega (arith, past, len))) in
          absurd (false≢true (subst (λ m. ltb 0 m ≡ true) zero_here some))
    ]
