-- Numbers of which each below some number was drawn once.
use Rattle.std.proofs.Common.{◌≡◌, ℕ, zero, suc, ◌+◌, ◌<◌, ◌≤◌, inl, inr, refl, List, [], ◌∷◌, ◌++◌, length, get_or, arith}
use Rattle.std.specs.List.{Contains}
use Rattle.std.proofs.lemmas.Bool.{cases_eq}
use Rattle.std.proofs.lemmas.Bool.Decides.{nat_tests}
use Rattle.std.proofs.lemmas.List.Sums.{sum_by-append}
use Rattle.std.proofs.lemmas.List.Elements.{Contains-append_right}
use Rattle.chaos_core.specs.Runs.{count_below}
use Rattle.window_words.specs.Views.{times}
use Rattle.window_words.specs.Rule.{once_below}

times_first : (x n : ℕ) (more : List ℕ) → times x (n ∷ more) ≡ times x (n ∷ []) + times x more
times_first x n more = sum_by-append _ (n ∷ []) more

times_same : (x n : ℕ) → n ≡ x → times x (n ∷ []) ≡ 1
times_same x n e = grind (arith, nat_tests)

times_other : (x n : ℕ) → (n ≡ x → ⊥) → times x (n ∷ []) ≡ 0
times_other x n h = grind (arith, nat_tests)

-- ---- a number is among others exactly where it is there some times
has_from : (xs : List ℕ) (x i : ℕ) → i < length xs → get_or xs i x ≡ x → 0 < times x xs
has_from [] x i h e = absurd (omega arith)
has_from (n ∷ more) x zero h e = let f = times_first x n more in let s = times_same x n e in omega (arith, f, s)
has_from (n ∷ more) x (suc i) h e = let f = times_first x n more in let k = has_from more x i (omega arith) e in omega (arith, f, k)

pub some_times : (xs : List ℕ) (x : ℕ) → Contains xs x → 0 < times x xs
some_times xs x c = has_from xs x c.0 c.1 c.2

pub times_some : (xs : List ℕ) (x : ℕ) → 0 < times x xs → Contains xs x
times_some [] x h = absurd (omega arith)
times_some (n ∷ more) x h = elim (cases_eq n x) [
  | inl e ↦ (0, omega arith, e)
  | inr ne ↦
      let f = times_first x n more in
      let o = times_other x n ne in
      Contains-append_right (n ∷ []) more x (times_some more x (omega (arith, f, o, h)))
]

-- ---- numbers drawn
pub once_inside : (next x : ℕ) → 0 < once_below next x → x < next
once_inside next x h = grind (arith, nat_tests)

pub once_there : (next x : ℕ) → x < next → once_below next x ≡ 1
once_there next x h = grind (arith, nat_tests)

pub once_most : (next x : ℕ) → once_below next x ≤ 1
once_most next x = grind (arith, nat_tests)

-- where a number at or past a bound was drawn, each below the bound was
pub all_drawn : (xs : List ℕ) (next bound last x : ℕ) → ((y : ℕ) → times y xs ≡ once_below next y) → Contains xs last → bound ≤ last → x < bound → Contains xs x
all_drawn xs next bound last x drawn has past below =
    let a = some_times xs last has in
    let b = drawn last in
    let inside = once_inside next last (omega (arith, a, b)) in
    let c = once_there next x (omega (arith, inside, past, below)) in
    let d = drawn x in
    times_some xs x (omega (arith, c, d))

below_more : (bound n : ℕ) → count_below (suc bound) (n ∷ []) ≡ count_below bound (n ∷ []) + times bound (n ∷ [])
below_more bound n = grind (arith, nat_tests)

count_more : (bound : ℕ) (xs : List ℕ) → count_below (suc bound) xs ≡ count_below bound xs + times bound xs
count_more bound [] = omega arith
count_more bound (n ∷ more) =
    let h = count_more bound more in
    let f = times_first bound n more in
    let m = below_more bound n in
    omega (arith, h, f, m)

no_less : (n : ℕ) → count_below 0 (n ∷ []) ≡ 0
no_less n = grind (arith, nat_tests)

none_below : (xs : List ℕ) → count_below 0 xs ≡ 0
none_below [] = refl
none_below (n ∷ more) = let h = none_below more in let l = no_less n in omega (arith, h, l)

once_each : (xs : List ℕ) → ((y : ℕ) → times y xs ≤ 1) → (bound : ℕ) → count_below bound xs ≤ bound
once_each xs once zero = let h = none_below xs in omega (arith, h)
once_each xs once (suc bound) =
    let h = once_each xs once bound in
    let m = count_more bound xs in
    let o = once bound in
    omega (arith, h, m, o)

-- no more numbers below a bound than there are
pub few_below : (xs : List ℕ) (next bound : ℕ) → ((y : ℕ) → times y xs ≡ once_below next y) → count_below bound xs ≤ bound
few_below xs next bound drawn = once_each xs (λ y. let d = drawn y in let m = once_most next y in omega (arith, d, m)) bound

exactly_below : (xs : List ℕ) (bound : ℕ) → ((y : ℕ) → y < bound → times y xs ≡ 1) → count_below bound xs ≡ bound
exactly_below xs zero once = none_below xs
exactly_below xs (suc bound) once =
    let h = exactly_below xs bound (λ y lt. once y (omega (arith, lt))) in
    let m = count_more bound xs in
    let o = once bound (omega arith) in
    omega (arith, h, m, o)

-- where a number at or past a bound was drawn, as many were drawn below the bound as there are
pub all_below : (xs : List ℕ) (next bound last : ℕ) → ((y : ℕ) → times y xs ≡ once_below next y) → Contains xs last → bound ≤ last → count_below bound xs ≡ bound
all_below xs next bound last drawn has past =
    let a = some_times xs last has in
    let b = drawn last in
    let inside = once_inside next last (omega (arith, a, b)) in
    exactly_below xs bound (λ y lt. let c = once_there next y (omega (arith, inside, past, lt)) in let d = drawn y in omega (arith, c, d))

pub count_both : (bound : ℕ) (xs ys : List ℕ) → count_below bound (xs ++ ys) ≡ count_below bound xs + count_below bound ys
count_both bound [] ys = omega arith
count_both bound (x ∷ xs) ys = let h = count_both bound xs ys in omega (arith, h)
