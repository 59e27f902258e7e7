-- Overlap answers of pairs, counted: in a run they change one way alone.
use Rattle.std.proofs.Common.{◌≡◌, ℕ, zero, suc, ◌+◌, ◌-◌, ◌*◌, ◌<◌, ◌≤◌, refl, sym, subst, Bool, true, false, List, [], ◌∷◌, length, get_or, arith}
use Rattle.std.specs.Prelude.{IsTrue}
use Rattle.xt_model.specs.declared.direction.Direction.{Direction}
use Rattle.xt_model.specs.declared.direction.Direction.TheVariants.{Widen, Narrow}
use Rattle.xt_model.specs.declared.edge.Edge.{Edge}
use Rattle.xt_model.specs.declared.edge.Edge.TheVariants.{Rise, Fall}
use Rattle.xt_model.specs.Parts.{Parts}
use Rattle.xt_model.specs.Assign.{Assignment}
use Rattle.xt_meaning.specs.Overlap.{Answers, overlap_answers}
use Rattle.xt_meaning.specs.Barrier.{NoFurther}
use Rattle.xt_meaning.specs.AnswerLaws.{AgreeOnPairs, IsImplied}
use Rattle.xt_meaning.proofs.Growth.{AreWired}
use Rattle.xt_meaning.proofs.Meeting.{overlaps_mono}

-- ---- one answer
one_if : Bool → ℕ
one_if true = 1
one_if false = 0

one_small : (x : Bool) → one_if x ≤ 1
unfolding one_if
one_small true = omega arith
one_small false = omega arith

one_rises : (x y : Bool) → (IsTrue x → IsTrue y) → one_if x ≤ one_if y
unfolding one_if
one_rises true true h = omega arith
one_rises true false h = let e : false ≡ true = h refl in cc
one_rises false true h = omega arith
one_rises false false h = omega arith

one_same : (x y : Bool) → one_if x ≡ one_if y → x ≡ y
unfolding one_if
one_same true true h = refl
one_same true false h = absurd (omega (arith, h))
one_same false true h = absurd (omega (arith, h))
one_same false false h = refl

-- ---- the four of a pair
four_at : Answers → ℕ → ℕ → ℕ
four_at b n m = (one_if (b n Rise m Rise) + one_if (b n Rise m Fall)) + (one_if (b n Fall m Rise) + one_if (b n Fall m Fall))

four_small : (b : Answers) (n m : ℕ) → four_at b n m ≤ 4
unfolding four_at
four_small b n m =
    let p = one_small (b n Rise m Rise) in
    let q = one_small (b n Rise m Fall) in
    let r = one_small (b n Fall m Rise) in
    let s = one_small (b n Fall m Fall) in
    omega (arith, p, q, r, s)

four_rises : (b c : Answers) (n m : ℕ) → IsImplied b c → four_at b n m ≤ four_at c n m
unfolding four_at
four_rises b c n m h =
    let p = one_rises (b n Rise m Rise) (c n Rise m Rise) (h.each n m Rise Rise) in
    let q = one_rises (b n Rise m Fall) (c n Rise m Fall) (h.each n m Rise Fall) in
    let r = one_rises (b n Fall m Rise) (c n Fall m Rise) (h.each n m Fall Rise) in
    let s = one_rises (b n Fall m Fall) (c n Fall m Fall) (h.each n m Fall Fall) in
    omega (arith, p, q, r, s)

four_same : (b c : Answers) (n m : ℕ) → IsImplied b c → four_at c n m ≤ four_at b n m → (e f : Edge) → b n e m f ≡ c n e m f
unfolding four_at
four_same b c n m h k e f =
    let p = one_rises (b n Rise m Rise) (c n Rise m Rise) (h.each n m Rise Rise) in
    let q = one_rises (b n Rise m Fall) (c n Rise m Fall) (h.each n m Rise Fall) in
    let r = one_rises (b n Fall m Rise) (c n Fall m Rise) (h.each n m Fall Rise) in
    let s = one_rises (b n Fall m Fall) (c n Fall m Fall) (h.each n m Fall Fall) in
    let w : one_if (b n Rise m Rise) ≡ one_if (c n Rise m Rise) = omega (arith, p, q, r, s, k) in
    let x : one_if (b n Rise m Fall) ≡ one_if (c n Rise m Fall) = omega (arith, p, q, r, s, k) in
    let y : one_if (b n Fall m Rise) ≡ one_if (c n Fall m Rise) = omega (arith, p, q, r, s, k) in
    let z : one_if (b n Fall m Fall) ≡ one_if (c n Fall m Fall) = omega (arith, p, q, r, s, k) in
    each_edge e f w x y z where
      each_edge : (e f : Edge) → one_if (b n Rise m Rise) ≡ one_if (c n Rise m Rise) → one_if (b n Rise m Fall) ≡ one_if (c n Rise m Fall) → one_if (b n Fall m Rise) ≡ one_if (c n Fall m Rise)
          → one_if (b n Fall m Fall) ≡ one_if (c n Fall m Fall) → b n e m f ≡ c n e m f
      each_edge Rise Rise w x y z = one_same (b n Rise m Rise) (c n Rise m Rise) w
      each_edge Rise Fall w x y z = one_same (b n Rise m Fall) (c n Rise m Fall) x
      each_edge Fall Rise w x y z = one_same (b n Fall m Rise) (c n Fall m Rise) y
      each_edge Fall Fall w x y z = one_same (b n Fall m Fall) (c n Fall m Fall) z

-- ---- those of all pairs
pub count_answers : List (ℕ × ℕ) → Answers → ℕ
count_answers [] b = 0
count_answers (p ∷ pairs) b = four_at b p.0 p.1 + count_answers pairs b

pub count_small : (pairs : List (ℕ × ℕ)) (b : Answers) → count_answers pairs b ≤ 4 * length pairs
unfolding count_answers
count_small [] b = omega arith
count_small (p ∷ pairs) b = let h = four_small b p.0 p.1 in let k = count_small pairs b in omega (arith, h, k)

pub count_rises : (pairs : List (ℕ × ℕ)) (b c : Answers) → IsImplied b c → count_answers pairs b ≤ count_answers pairs c
unfolding count_answers
count_rises [] b c h = omega arith
count_rises (p ∷ pairs) b c h = let x = four_rises b c p.0 p.1 h in let y = count_rises pairs b c h in omega (arith, x, y)

count_same : (pairs : List (ℕ × ℕ)) (b c : Answers) → IsImplied b c → count_answers pairs c ≤ count_answers pairs b → (i : ℕ) (x : ℕ × ℕ) → i < length pairs → (e f : Edge)
    → b (get_or pairs i x).0 e (get_or pairs i x).1 f ≡ c (get_or pairs i x).0 e (get_or pairs i x).1 f
unfolding count_answers
count_same [] b c h k i x lt e f = absurd (omega (arith, lt))
count_same (p ∷ pairs) b c h k zero x lt e f = let y = count_rises pairs b c h in four_same b c p.0 p.1 h (omega (arith, k, y)) e f
count_same (p ∷ pairs) b c h k (suc i) x lt e f = let y = four_rises b c p.0 p.1 h in count_same pairs b c h (omega (arith, k, y)) i x (omega (arith, lt)) e f

pub agree_by_count : (pairs : List (ℕ × ℕ)) (b c : Answers) → IsImplied b c → count_answers pairs c ≤ count_answers pairs b → AgreeOnPairs pairs b c
agree_by_count pairs b c h k = record {
  each = λ n m e f has.
      let P : (ℕ × ℕ) → Type 0 = λ p. b p.0 e p.1 f ≡ c p.0 e p.1 f in
      subst P has.2 (count_same pairs b c h k has.0 (n, m) has.1 e f);
}

-- ---- in a run
-- how many answers a run in this direction can still change
pub left : Direction → Parts → List (ℕ × ℕ) → Assignment → ℕ
left Widen d pairs W = 4 * length pairs - count_answers pairs (overlap_answers d.period W)
left Narrow d pairs W = count_answers pairs (overlap_answers d.period W)

pub left_small : (way : Direction) (d : Parts) (pairs : List (ℕ × ℕ)) (W : Assignment) → left way d pairs W ≤ 4 * length pairs
unfolding left
left_small Widen d pairs W = omega arith
left_small Narrow d pairs W = count_small pairs (overlap_answers d.period W)

widens : (d : Parts) (W V : Assignment) → AreWired d → NoFurther Widen W V → IsImplied (overlap_answers d.period W) (overlap_answers d.period V)
widens d W V ws h = record { each = λ n m e f t. overlaps_mono d.period (W n e) (W m f) (V n e) (V m f) ws.period (h.each n e) (h.each m f) t }

narrows : (d : Parts) (W V : Assignment) → AreWired d → NoFurther Narrow W V → IsImplied (overlap_answers d.period V) (overlap_answers d.period W)
narrows d W V ws h = record { each = λ n m e f t. overlaps_mono d.period (V n e) (V m f) (W n e) (W m f) ws.period (h.each n e) (h.each m f) t }

pub left_falls : (way : Direction) (d : Parts) (pairs : List (ℕ × ℕ)) (W V : Assignment) → AreWired d → NoFurther way W V → left way d pairs V ≤ left way d pairs W
unfolding left
left_falls Widen d pairs W V ws h = let k = count_rises pairs (overlap_answers d.period W) (overlap_answers d.period V) (widens d W V ws h) in omega (arith, k)
left_falls Narrow d pairs W V ws h = count_rises pairs (overlap_answers d.period V) (overlap_answers d.period W) (narrows d W V ws h)

-- where as many can still change, none has changed
pub left_same : (way : Direction) (d : Parts) (pairs : List (ℕ × ℕ)) (W V : Assignment) → AreWired d → NoFurther way W V → left way d pairs W ≤ left way d pairs V
    → AgreeOnPairs pairs (overlap_answers d.period V) (overlap_answers d.period W)
unfolding left
left_same Widen d pairs W V ws h k =
    let small = count_small pairs (overlap_answers d.period V) in
    let most = count_small pairs (overlap_answers d.period W) in
    let a = agree_by_count pairs (overlap_answers d.period W) (overlap_answers d.period V) (widens d W V ws h) (omega (arith, small, most, k)) in
    record { each = λ n m e f has. sym (a.each n m e f has) }
left_same Narrow d pairs W V ws h k = agree_by_count pairs (overlap_answers d.period V) (overlap_answers d.period W) (narrows d W V ws h) k
