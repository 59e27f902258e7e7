-- An assignment as a list of windows.
use Rattle.std.proofs.Common.{◌≡◌, ℕ, zero, suc, ◌+◌, ◌<◌, ◌≤◌, refl, subst, List, [], ◌∷◌, length, arith}
use Rattle.std.specs.List.{All}
use Rattle.std.proofs.lemmas.List.Elements.{All-nil, All-cons}
use Rattle.xt_model.specs.declared.edge.Edge.{Edge}
use Rattle.xt_model.specs.declared.edge.Edge.TheVariants.{Rise, Fall}
use Rattle.xt_model.specs.declared.quad.Pair.{Pair}
use Rattle.xt_model.specs.Quads.{bottom, IsInRange, IsPairInRange}
use Rattle.xt_model.specs.Assign.{Assignment, assigned}

-- the windows of `count` nets from number `start` on
pub listed : Assignment → ℕ → ℕ → List Pair
listed W start zero = []
listed W start (suc count) = record { rise = W start Rise; fall = W start Fall } ∷ listed W (suc start) count

pub length-listed : (W : Assignment) (start count : ℕ) → length (listed W start count) ≡ count
unfolding listed
length-listed W start zero = refl
length-listed W start (suc count) = let h = length-listed W (suc start) count in omega arith

pub listed_inside : (W : Assignment) (start count n : ℕ) (e : Edge) → n < count → assigned (listed W start count) n e ≡ W (start + n) e
unfolding listed
listed_inside W start zero n e h = absurd (omega arith)
listed_inside W start (suc count) zero Rise h = let P : ℕ → Type 0 = λ i. W start Rise ≡ W i Rise in let k : start ≡ start + 0 = omega arith in subst P k refl
listed_inside W start (suc count) zero Fall h = let P : ℕ → Type 0 = λ i. W start Fall ≡ W i Fall in let k : start ≡ start + 0 = omega arith in subst P k refl
listed_inside W start (suc count) (suc n) e h =
    let k : suc start + n ≡ start + suc n = omega arith in
    let P : ℕ → Type 0 = λ i. assigned (listed W (suc start) count) n e ≡ W i e in
    subst P k (listed_inside W (suc start) count n e (omega arith))

pub listed_past : (W : Assignment) (start count n : ℕ) (e : Edge) → count ≤ n → assigned (listed W start count) n e ≡ bottom
unfolding listed
listed_past W start zero n e h = refl
listed_past W start (suc count) zero e h = absurd (omega arith)
listed_past W start (suc count) (suc n) e h = listed_past W (suc start) count n e (omega arith)

pub listed_in_range : (W : Assignment) (start count : ℕ) → ((n : ℕ) (e : Edge) → IsInRange (W n e)) → All IsPairInRange (listed W start count)
unfolding listed
listed_in_range W start zero h = All-nil IsPairInRange
listed_in_range W start (suc count) h =
    All-cons IsPairInRange (record { rise = W start Rise; fall = W start Fall }) (listed W (suc start) count) (record { rise = h start Rise; fall = h start Fall }) (listed_in_range W (suc start) count h)
