-- The least and the greatest fixpoint: how a run ends in one, and that each is the only one.
use Rattle.std.proofs.Common.{◌≡◌, ℕ, suc, refl, sym, ◌∙◌, List, [], ◌∷◌, length, arith}
use Rattle.xt_model.specs.declared.direction.Direction.{Direction}
use Rattle.xt_model.specs.declared.direction.Direction.TheVariants.{Widen, Narrow}
use Rattle.xt_model.specs.declared.edge.Edge.{Edge}
use Rattle.xt_model.specs.declared.edge.Edge.TheVariants.{Rise, Fall}
use Rattle.xt_model.specs.declared.quad.Pair.{Pair}
use Rattle.xt_model.specs.Parts.{Parts}
use Rattle.xt_model.specs.Assign.{assigned}
use Rattle.xt_meaning.specs.Operator.{step}
use Rattle.xt_meaning.specs.Fixpoint.{IsWindows, IsContained, IsFixpoint, IsLeastFixpoint, IsGreatestFixpoint}
use Rattle.xt_meaning.specs.Barrier.{NoFurther, IsBarrier, Respects}
use Rattle.xt_meaning.specs.Laws.{IsExtremeFixpoint}
use Rattle.xt_meaning.proofs.Order.{within_antisym}
use Rattle.xt_meaning.proofs.Steps.{further_same, contained_widen, contained_narrow, widen_contained, narrow_contained, respects_together, no_further_antisym}

-- ---- lists of windows
pub same_pair : (p q : Pair) → p.rise ≡ q.rise → p.fall ≡ q.fall → p ≡ q
same_pair p q a b = let e : ◌≡◌ {A = Pair} (record { rise = p.rise; fall = p.fall }) (record { rise = q.rise; fall = q.fall }) = rw (a, b) refl in e

-- lists of one length that stand for the same assignment are the same
pub same_windows : (x y : List Pair) → length x ≡ length y → ((n : ℕ) (e : Edge) → assigned x n e ≡ assigned y n e) → x ≡ y
same_windows [] [] h same = refl
same_windows [] (q ∷ ys) h same = absurd (omega arith)
same_windows (p ∷ xs) [] h same = absurd (omega arith)
same_windows (p ∷ xs) (q ∷ ys) h same =
    let e = same_pair p q (same 0 Rise) (same 0 Fall) in
    let k = same_windows xs ys (omega arith) (λ n f. same (suc n) f) in
    cc

pub same_from_contained : (d : Parts) (x y : List Pair) → IsWindows d x → IsWindows d y → IsContained (assigned x) (assigned y) → IsContained (assigned y) (assigned x) → x ≡ y
same_from_contained d x y a b h k =
    same_windows x y (a.count ∙ sym b.count) (λ n e. within_antisym (assigned x n e) (assigned y n e) (h.each n e) (k.each n e))

-- ---- fixpoints
-- what the operator makes of a fixpoint lies within it, and contains it
pub fixpoint_closed : (way : Direction) (d : Parts) (v : List Pair) → IsFixpoint d v → NoFurther way (step d v) (assigned v)
fixpoint_closed way d v f = further_same way (step d v) (assigned v) f.fixed

pub fixpoint_fits : (way : Direction) (d : Parts) (v : List Pair) → IsFixpoint d v → NoFurther way (assigned v) (step d v)
fixpoint_fits way d v f = further_same way (assigned v) (step d v) (λ n e. sym (f.fixed n e))

pub fixpoint_barrier : (way : Direction) (d : Parts) (v : List Pair) → IsFixpoint d v → IsBarrier way d v
fixpoint_barrier way d v f = record { windows = f.windows; closed = fixpoint_closed way d v f }

-- a fixpoint that crosses no barrier is the extreme one of that side
pub extreme_from_fixpoint : (way : Direction) (d : Parts) (x : List Pair) → IsFixpoint d x → Respects way d (assigned x) → IsExtremeFixpoint way d x
extreme_from_fixpoint Widen d x f r = record {
  fixpoint = f;
  least = λ v w c. contained_widen (assigned x) (assigned v) ((respects_together Widen d (assigned x) r).each v (record { windows = w; closed = widen_contained (step d v) (assigned v) c }));
}
extreme_from_fixpoint Narrow d x f r = record {
  fixpoint = f;
  greatest = λ v w c. contained_narrow (assigned x) (assigned v) ((respects_together Narrow d (assigned x) r).each v (record { windows = w; closed = narrow_contained (step d v) (assigned v) c }));
}

-- windows that fit, and that the operator does not move further, are a fixpoint
pub fixpoint_from_closed : (way : Direction) (d : Parts) (x : List Pair) → IsWindows d x → NoFurther way (assigned x) (step d x) → NoFurther way (step d x) (assigned x) → IsFixpoint d x
fixpoint_from_closed way d x w fits closed = record {
  windows = w;
  fixed = λ n e. no_further_antisym way (step d x n e) (assigned x n e) (closed.each n e) (fits.each n e);
}

pub extreme_is_fixpoint : (way : Direction) (d : Parts) (x : List Pair) → IsExtremeFixpoint way d x → IsFixpoint d x
extreme_is_fixpoint Widen d x h = h.fixpoint
extreme_is_fixpoint Narrow d x h = h.fixpoint

pub extreme_before : (way : Direction) (d : Parts) (x v : List Pair) → IsExtremeFixpoint way d x → IsBarrier way d v → NoFurther way (assigned x) (assigned v)
extreme_before Widen d x v h b = widen_contained (assigned x) (assigned v) (h.least v b.windows (contained_widen (step d v) (assigned v) b.closed))
extreme_before Narrow d x v h b = narrow_contained (assigned x) (assigned v) (h.greatest v b.windows (contained_narrow (step d v) (assigned v) b.closed))

-- two extreme fixpoints of one side are the same windows
pub extreme_unique : (way : Direction) (d : Parts) (x y : List Pair) → IsExtremeFixpoint way d x → IsExtremeFixpoint way d y → x ≡ y
extreme_unique way d x y a b =
    let fx = extreme_is_fixpoint way d x a in
    let fy = extreme_is_fixpoint way d y b in
    let h = extreme_before way d x y a (fixpoint_barrier way d y fy) in
    let k = extreme_before way d y x b (fixpoint_barrier way d x fx) in
    same_windows x y (fx.windows.count ∙ sym fy.windows.count) (λ n e. no_further_antisym way (assigned x n e) (assigned y n e) (h.each n e) (k.each n e))

pub least_unique : (d : Parts) (x y : List Pair) → IsLeastFixpoint d x → IsLeastFixpoint d y → x ≡ y
least_unique d x y a b = extreme_unique Widen d x y a b

pub greatest_unique : (d : Parts) (x y : List Pair) → IsGreatestFixpoint d x → IsGreatestFixpoint d y → x ≡ y
greatest_unique d x y a b = extreme_unique Narrow d x y a b

pub least_within : (d : Parts) (low v : List Pair) → IsLeastFixpoint d low → IsFixpoint d v → IsContained (assigned low) (assigned v)
least_within d low v h f = h.least v f.windows (contained_widen (step d v) (assigned v) (fixpoint_closed Widen d v f))

pub within_greatest : (d : Parts) (high v : List Pair) → IsGreatestFixpoint d high → IsFixpoint d v → IsContained (assigned v) (assigned high)
within_greatest d high v h f = h.greatest v f.windows (contained_narrow (step d v) (assigned v) (fixpoint_closed Narrow d v f))
