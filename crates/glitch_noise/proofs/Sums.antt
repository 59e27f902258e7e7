-- Sums of changes: of two lists, in another order, and before the first of them.
use Rattle.std.proofs.Common.{◌≡◌, ℕ, ◌+◌, refl, List, [], ◌∷◌, ◌++◌, ℤ, pos, negsuc, ◌+ℤ◌, ◌-ℤ◌, ◌≤ℤ◌, arith}
use Rattle.std.specs.Prelude.{int_le, if◌then◌else◌}
use Rattle.std.specs.List.{All, sum_by}
use Rattle.std.specs.List.Sorted.{IsPermutation}
use Rattle.std.proofs.lemmas.Int.{ints}
use Rattle.std.proofs.lemmas.List.Sums.{sum_by-cons}
use Rattle.std.proofs.lemmas.List.Sorted.{sum_by-IsPermutation}
use Rattle.std.proofs.lemmas.List.Elements.{All-head, All-tail}
use Rattle.xt_meaning.proofs.Order.{test_from_le}
use Rattle.glitch_noise.specs.declared.change.Change.{Change}
use Rattle.glitch_noise.specs.Changes.{sum_to, IsFrom, Ascend}
use Rattle.glitch_noise.proofs.Tests.{test_from_gt}

pub sum_to-append : (m : ℤ) (xs ys : List Change) → sum_to m (xs ++ ys) ≡ sum_to m xs +ℤ sum_to m ys
sum_to-append m [] ys = omega (arith, ints)
sum_to-append m (c ∷ xs) ys = let h = sum_to-append m xs ys in omega (arith, ints, h)

-- a change that has come by a moment, and one that has not
pub sum_to-past : (m : ℤ) (c : Change) (cs : List Change) → c.at ≤ℤ m → sum_to m (c ∷ cs) ≡ c.by +ℤ sum_to m cs
sum_to-past m c cs h = rw (test_from_le c.at m h) refl

pub sum_to-later : (m : ℤ) (c : Change) (cs : List Change) → (m +ℤ pos 1) ≤ℤ c.at → sum_to m (c ∷ cs) ≡ sum_to m cs
sum_to-later m c cs h = let e = test_from_gt c.at m h in rw e (omega (arith, ints))

-- ---- in another order: the sum is that of what rises less that of what falls
rises : ℤ → ℕ
rises (pos n) = n
rises (negsuc n) = 0

falls : ℤ → ℕ
falls (pos n) = 0
falls (negsuc n) = n + 1

by_parts : (z : ℤ) → z ≡ pos (rises z) -ℤ pos (falls z)
unfolding rises falls
by_parts (pos n) = omega (arith, ints)
by_parts (negsuc n) = omega (arith, ints)

come : ℤ → Change → ℤ
come m c = if int_le c.at m then c.by else pos 0

up : ℤ → Change → ℕ
up m c = rises (come m c)

down : ℤ → Change → ℕ
down m c = falls (come m c)

as_parts : (m : ℤ) (cs : List Change) → sum_to m cs ≡ pos (sum_by (up m) cs) -ℤ pos (sum_by (down m) cs)
unfolding come up down
as_parts m [] = refl
as_parts m (c ∷ cs) =
    let h = as_parts m cs in
    let p = by_parts (come m c) in
    let a = sum_by-cons (up m) c cs in
    let b = sum_by-cons (down m) c cs in
    omega (arith, ints, h, p, a, b)

pub sum_to-permutation : (m : ℤ) (xs ys : List Change) → IsPermutation xs ys → sum_to m ys ≡ sum_to m xs
sum_to-permutation m xs ys p =
    let a = as_parts m xs in
    let b = as_parts m ys in
    let u = sum_by-IsPermutation (up m) xs ys p in
    let v = sum_by-IsPermutation (down m) xs ys p in
    omega (arith, ints, a, b, u, v)

-- ---- before and after all changes
pub from_weaker : (a b : ℤ) (cs : List Change) → a ≤ℤ b → IsFrom b cs → IsFrom a cs
from_weaker a b [] h k = tt
from_weaker a b (c ∷ cs) h k = omega (arith, ints, h, k)

pub sum_to-before : (m : ℤ) (cs : List Change) → Ascend cs → IsFrom (m +ℤ pos 1) cs → sum_to m cs ≡ pos 0
sum_to-before m [] rising h = refl
sum_to-before m (c ∷ cs) rising h =
    let e = sum_to-later m c cs h in
    let k = sum_to-before m cs rising.1 (from_weaker (m +ℤ pos 1) c.at cs h rising.0) in
    omega (arith, ints, e, k)

pub sum_to-none : (m : ℤ) (cs : List Change) → All (λ c. (m +ℤ pos 1) ≤ℤ c.at) cs → sum_to m cs ≡ pos 0
sum_to-none m [] h = refl
sum_to-none m (c ∷ cs) h =
    let e = sum_to-later m c cs (All-head (λ c. (m +ℤ pos 1) ≤ℤ c.at) c cs h) in
    let k = sum_to-none m cs (All-tail (λ c. (m +ℤ pos 1) ≤ℤ c.at) c cs h) in
    omega (arith, ints, e, k)

pub sum_to-same : (m k : ℤ) (cs : List Change) → All (λ c. c.at ≤ℤ m) cs → m ≤ℤ k → sum_to k cs ≡ sum_to m cs
sum_to-same m k [] h le = refl
sum_to-same m k (c ∷ cs) h le =
    let at : c.at ≤ℤ m = All-head (λ c. c.at ≤ℤ m) c cs h in
    let e = sum_to-past m c cs at in
    let f = sum_to-past k c cs (omega (arith, ints, at, le)) in
    let r = sum_to-same m k cs (All-tail (λ c. c.at ≤ℤ m) c cs h) le in
    omega (arith, ints, e, f, r)
