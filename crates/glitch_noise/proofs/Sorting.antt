-- Changes that a sort left ascend.
use Rattle.std.proofs.Common.{◌≡◌, ℕ, suc, ◌+◌, false, List, [], ◌∷◌, get_or, subst, ℤ, ◌≤ℤ◌, arith}
use Rattle.std.specs.Ordering.{is_lt, int_cmp}
use Rattle.std.specs.List.Sorted.{IsSortedByKey}
use Rattle.std.proofs.lemmas.Int.{ints}
use Rattle.glitch_noise.specs.declared.change.Change.{Change}
use Rattle.glitch_noise.specs.Changes.{Ascend}

not_before : (a b : ℤ) → is_lt (int_cmp a b) ≡ false → b ≤ℤ a
not_before a b e = grind (arith, ints)

pub ascend_sorted : (cs : List Change) → IsSortedByKey (λ c. c.at) int_cmp cs → Ascend cs
ascend_sorted [] h = tt
ascend_sorted (c ∷ []) h = (tt, tt)
ascend_sorted (c ∷ d ∷ more) h = (not_before d.at c.at (h 0 c (omega arith) (omega arith)), ascend_sorted (d ∷ more) rest)
  where
    rest : IsSortedByKey (λ c. c.at) int_cmp (d ∷ more)
    rest k x low high =
        let P : ℕ → Type 0 = λ j. is_lt (int_cmp (get_or (c ∷ d ∷ more) j x).at (get_or (d ∷ more) k x).at) ≡ false in
        let same : suc k + 1 ≡ suc (k + 1) = omega arith in
        subst P same (h (suc k) x (omega arith) (omega (arith, high)))
