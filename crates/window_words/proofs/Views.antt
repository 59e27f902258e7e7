-- The views of all passes after a change of one, or with one more; and numbers that were drawn.
use Rattle.std.proofs.Common.{◌≡◌, ◌≢◌, ℕ, zero, suc, ◌+◌, ◌-◌, ◌<◌, ◌≤◌, inl, inr, sym, subst, ◌∙◌, List, [], ◌∷◌, ◌++◌, length, set, get_or, arith}
use Rattle.std.specs.List.{All}
use Rattle.std.proofs.lemmas.Bool.{cases_lt}
use Rattle.std.proofs.lemmas.Bool.Decides.{nat_tests}
use Rattle.std.proofs.lemmas.List.Sums.{sum_by-append}
use mathlib.Core.Option.{some-injective, some-ne-none}
use Rattle.atomic_table.proofs.Lists.{at_set, at_snoc}
use Rattle.window_words.specs.declared.view.View.{View}
use Rattle.window_words.specs.Views.{times, count_from}
use Rattle.window_words.specs.Rule.{IsThere, once_below}

-- a fact of each view holds of each after a change of one
pub each_set : (P : View → Type 0) (views : List View) (id : ℕ) (w : View) → ((j : ℕ) (u : View) → IsThere views j u → P u) → P w → (j : ℕ) (u : View) → IsThere (set views id w) j u → P u
each_set P views id w each here j u e = elim (at_set views id j w u e) [ inl p ↦ subst P p.1 here | inr p ↦ each j u p.1 ]

-- the same where the fact may speak of the place
pub each_set_at : (P : ℕ → View → Type 0) (views : List View) (id : ℕ) (w : View) → ((j : ℕ) (u : View) → j ≢ id → IsThere views j u → P j u) → P id w → (j : ℕ) (u : View) → IsThere (set views id w) j u → P j u
each_set_at P views id w each here j u e = elim (at_set views id j w u e) [
  | inl p ↦ subst (λ i. P i u) (sym p.0) (subst (P id) p.1 here)
  | inr p ↦ each j u p.0 p.1
]

-- a fact of each view holds of each with one more
pub each_more : (P : View → Type 0) (views : List View) (w : View) → ((j : ℕ) (u : View) → IsThere views j u → P u) → P w → (j : ℕ) (u : View) → IsThere (views ++ w ∷ []) j u → P u
each_more P views w each here j u e = elim (at_snoc views w u j e) [ inl p ↦ each j u p | inr p ↦ subst P p here ]

pub only_one : (P : View → Type 0) (w : View) → P w → (j : ℕ) (u : View) → IsThere (w ∷ []) j u → P u
only_one P w here zero u e = subst P (some-injective w u e) here
only_one P w here (suc j) u e = absurd (some-ne-none u (sym e))

pub within : (views : List View) (id : ℕ) (v : View) → IsThere views id v → id < length views
within [] id v e = absurd (some-ne-none v (sym e))
within (x ∷ views) zero v e = omega arith
within (x ∷ views) (suc i) v e = let h = within views i v e in omega (arith, h)

pub same_view : (views : List View) (id : ℕ) (v w : View) → IsThere views id v → IsThere views id w → v ≡ w
same_view views id v w e g = some-injective v w (sym e ∙ g)

-- ---- numbers that were drawn
pub times_both : (x : ℕ) (xs ys : List ℕ) → times x (xs ++ ys) ≡ times x xs + times x ys
times_both x xs ys = sum_by-append _ xs ys

pub count_from_both : (bound : ℕ) (xs ys : List ℕ) → count_from bound (xs ++ ys) ≡ count_from bound xs + count_from bound ys
count_from_both bound xs ys = sum_by-append _ xs ys

pub once_more : (next x : ℕ) → once_below (next + 1) x ≡ once_below next x + times x (next ∷ [])
once_more next x = grind (arith, nat_tests)

pub count_more : (bound next : ℕ) → (next + 1) - bound ≡ (next - bound) + count_from bound (next ∷ [])
count_more bound next = grind (arith, nat_tests)

pub count_one : (bound next : ℕ) → count_from bound (next ∷ []) ≤ 1
count_one bound next = grind (arith, nat_tests)

pub once_none : (x : ℕ) → once_below 0 x ≡ 0
once_none x = grind (arith, nat_tests)

pub once_past : (next x : ℕ) → next ≤ x → once_below next x ≡ 0
once_past next x h = grind (arith, nat_tests)

some_times : (xs : List ℕ) (i d : ℕ) → i < length xs → 0 < times (get_or xs i d) xs
some_times [] i d h = absurd (omega arith)
some_times (x ∷ xs) zero d h =
    let p : times x (x ∷ xs) ≡ times x (x ∷ []) + times x xs = times_both x (x ∷ []) xs in
    let one : times x (x ∷ []) ≡ 1 = grind (arith, nat_tests) in
    omega (arith, p, one)
some_times (x ∷ xs) (suc i) d h =
    let y = get_or xs i d in
    let k = some_times xs i d (omega arith) in
    let p : times y (x ∷ xs) ≡ times y (x ∷ []) + times y xs = times_both y (x ∷ []) xs in
    omega (arith, k, p)

-- numbers none of which stands at or past a bound are below it
pub all_below : (next : ℕ) (xs : List ℕ) → ((x : ℕ) → times x xs ≤ once_below next x) → All (λ x. x < next) xs
all_below next xs h i d inside = elim (cases_lt (get_or xs i d) next) [
  | inl p ↦ p
  | inr p ↦
      let a = some_times xs i d inside in
      let b = h (get_or xs i d) in
      let c = once_past next (get_or xs i d) p in
      absurd (omega (arith, a, b, c))
]
