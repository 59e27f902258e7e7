-- How far windows can still go in a direction: the measure of a run.
use Rattle.std.proofs.Common.{◌≡◌, ℕ, suc, ◌+◌, ◌<◌, ◌≤◌, ◌⊎◌, inl, inr, refl, List, [], ◌∷◌, length, ℤ, ◌≤ℤ◌, arith}
use Rattle.std.specs.List.{All}
use Rattle.std.proofs.lemmas.Int.{ints}
use Rattle.std.proofs.lemmas.Bool.{cases_lt}
use Rattle.std.proofs.lemmas.List.Elements.{All-head, All-tail}
use Rattle.xt_model.specs.declared.direction.Direction.{Direction}
use Rattle.xt_model.specs.declared.direction.Direction.TheVariants.{Widen, Narrow}
use Rattle.xt_model.specs.declared.edge.Edge.TheVariants.{Rise, Fall}
use Rattle.xt_model.specs.declared.quad.Quad.{Quad}
use Rattle.xt_model.specs.declared.quad.Pair.{Pair}
use Rattle.xt_model.specs.Quads.{IsBound, IsInRange, IsPairInRange}
use Rattle.xt_model.specs.Parts.{Parts}
use Rattle.xt_model.specs.Assign.{assigned}
use Rattle.xt_meaning.specs.Measure.{above_least, below_greatest, quad_room, pair_room, room}
use Rattle.xt_meaning.specs.Fixpoint.{IsWindows}
use Rattle.xt_meaning.specs.Barrier.{IsNoFurther, NoFurther}
use Rattle.xt_meaning.proofs.Order.{same_quad}
use Rattle.xt_meaning.proofs.Extremes.{same_pair}

-- ---- one bound
above_falls : (a b : ℤ) → IsBound b → b ≤ℤ a → above_least b ≤ above_least a
above_falls a b h k = omega (arith, ints, h.low)

below_falls : (a b : ℤ) → IsBound b → a ≤ℤ b → below_greatest b ≤ below_greatest a
below_falls a b h k = omega (arith, ints, h.high)

above_same : (a b : ℤ) → IsBound b → b ≤ℤ a → above_least a ≤ above_least b → a ≡ b
above_same a b h k m = omega (arith, ints, h.low)

below_same : (a b : ℤ) → IsBound b → a ≤ℤ b → below_greatest a ≤ below_greatest b → a ≡ b
below_same a b h k m = omega (arith, ints, h.high)

-- ---- one window
pub quad_room_falls : (way : Direction) (q r : Quad) → IsInRange r → IsNoFurther way q r → quad_room way r ≤ quad_room way q
quad_room_falls Widen q r h w =
    let a = above_falls q.tlo r.tlo h.tlo w.tlo in
    let b = below_falls q.thi r.thi h.thi w.thi in
    let c = above_falls q.slo r.slo h.slo w.slo in
    let d = below_falls q.shi r.shi h.shi w.shi in
    omega (arith, a, b, c, d)
quad_room_falls Narrow q r h w =
    let a = below_falls q.tlo r.tlo h.tlo w.tlo in
    let b = above_falls q.thi r.thi h.thi w.thi in
    let c = below_falls q.slo r.slo h.slo w.slo in
    let d = above_falls q.shi r.shi h.shi w.shi in
    omega (arith, a, b, c, d)

four : (a b c d w x y z : ℕ) → w ≤ a → x ≤ b → y ≤ c → z ≤ d → (a + b) + (c + d) ≤ (w + x) + (y + z) → (a ≤ w) × (b ≤ x) × (c ≤ y) × (d ≤ z)
four a b c d w x y z p q r s h = (omega arith, omega arith, omega arith, omega arith)

pub quad_room_same : (way : Direction) (q r : Quad) → IsInRange r → IsNoFurther way q r → quad_room way q ≤ quad_room way r → q ≡ r
quad_room_same Widen q r h w m =
    let f = four (above_least q.tlo) (below_greatest q.thi) (above_least q.slo) (below_greatest q.shi) (above_least r.tlo) (below_greatest r.thi) (above_least r.slo) (below_greatest r.shi)
    (above_falls q.tlo r.tlo h.tlo w.tlo) (below_falls q.thi r.thi h.thi w.thi) (above_falls q.slo r.slo h.slo w.slo) (below_falls q.shi r.shi h.shi w.shi) m in
    same_quad q r (above_same q.tlo r.tlo h.tlo w.tlo f.0) (below_same q.thi r.thi h.thi w.thi f.1) (above_same q.slo r.slo h.slo w.slo f.2) (below_same q.shi r.shi h.shi w.shi f.3)
quad_room_same Narrow q r h w m =
    let f = four (below_greatest q.tlo) (above_least q.thi) (below_greatest q.slo) (above_least q.shi) (below_greatest r.tlo) (above_least r.thi) (below_greatest r.slo) (above_least r.shi)
    (below_falls q.tlo r.tlo h.tlo w.tlo) (above_falls q.thi r.thi h.thi w.thi) (below_falls q.slo r.slo h.slo w.slo) (above_falls q.shi r.shi h.shi w.shi) m in
    same_quad q r (below_same q.tlo r.tlo h.tlo w.tlo f.0) (above_same q.thi r.thi h.thi w.thi f.1) (below_same q.slo r.slo h.slo w.slo f.2) (above_same q.shi r.shi h.shi w.shi f.3)

-- ---- all windows
record PairNoFurther (way : Direction) (p q : Pair) : Type 0 where
  rise : IsNoFurther way p.rise q.rise
  fall : IsNoFurther way p.fall q.fall

pair_falls : (way : Direction) (p q : Pair) → IsPairInRange q → PairNoFurther way p q → pair_room way q ≤ pair_room way p
pair_falls way p q h w =
    let a = quad_room_falls way p.rise q.rise h.rise w.rise in
    let b = quad_room_falls way p.fall q.fall h.fall w.fall in
    two (quad_room way p.rise) (quad_room way p.fall) (quad_room way q.rise) (quad_room way q.fall) a b where
      two : (a b c d : ℕ) → c ≤ a → d ≤ b → c + d ≤ a + b
      two a b c d h k = omega arith

pair_same : (way : Direction) (p q : Pair) → IsPairInRange q → PairNoFurther way p q → pair_room way p ≤ pair_room way q → p ≡ q
pair_same way p q h w m =
    let a = quad_room_falls way p.rise q.rise h.rise w.rise in
    let b = quad_room_falls way p.fall q.fall h.fall w.fall in
    let f = two (quad_room way p.rise) (quad_room way p.fall) (quad_room way q.rise) (quad_room way q.fall) a b m in
    same_pair p q (quad_room_same way p.rise q.rise h.rise w.rise f.0) (quad_room_same way p.fall q.fall h.fall w.fall f.1) where
      two : (a b c d : ℕ) → c ≤ a → d ≤ b → a + b ≤ c + d → (a ≤ c) × (b ≤ d)
      two a b c d h k m = (omega arith, omega arith)

pub room_falls : (way : Direction) (x y : List Pair) → length x ≡ length y → All IsPairInRange y → NoFurther way (assigned x) (assigned y) → room way y ≤ room way x
room_falls way [] [] e h w = omega arith
room_falls way [] (q ∷ ys) e h w = absurd (omega arith)
room_falls way (p ∷ xs) [] e h w = absurd (omega arith)
room_falls way (p ∷ xs) (q ∷ ys) e h w =
    let a = pair_falls way p q (All-head IsPairInRange q ys h) (record { rise = w.each 0 Rise; fall = w.each 0 Fall }) in
    let b = room_falls way xs ys (omega arith) (All-tail IsPairInRange q ys h) (record { each = λ n f. w.each (suc n) f }) in
    two (pair_room way p) (room way xs) (pair_room way q) (room way ys) a b where
      two : (a b c d : ℕ) → c ≤ a → d ≤ b → c + d ≤ a + b
      two a b c d h k = omega arith

pub room_same : (way : Direction) (x y : List Pair) → length x ≡ length y → All IsPairInRange y → NoFurther way (assigned x) (assigned y) → room way x ≤ room way y → x ≡ y
room_same way [] [] e h w m = refl
room_same way [] (q ∷ ys) e h w m = absurd (omega arith)
room_same way (p ∷ xs) [] e h w m = absurd (omega arith)
room_same way (p ∷ xs) (q ∷ ys) e h w m =
    let head = All-head IsPairInRange q ys h in
    let tail = All-tail IsPairInRange q ys h in
    let both : PairNoFurther way p q = record { rise = w.each 0 Rise; fall = w.each 0 Fall } in
    let rest : NoFurther way (assigned xs) (assigned ys) = record { each = λ n f. w.each (suc n) f } in
    let lengths : length xs ≡ length ys = omega arith in
    let f = two (pair_room way p) (room way xs) (pair_room way q) (room way ys) (pair_falls way p q head both) (room_falls way xs ys lengths tail rest) m in
    let a = pair_same way p q head both f.0 in
    let b = room_same way xs ys lengths tail rest f.1 in
    cc where
      two : (a b c d : ℕ) → c ≤ a → d ≤ b → a + b ≤ c + d → (a ≤ c) × (b ≤ d)
      two a b c d h k m = (omega arith, omega arith)

-- windows that are further than others are the same, or have less room
pub room_less : (way : Direction) (d : Parts) (x y : List Pair) → IsWindows d x → IsWindows d y → NoFurther way (assigned x) (assigned y) → (x ≡ y) ⊎ (room way y < room way x)
room_less way d x y a b w =
    let e : length x ≡ length y = omega (arith, a.count, b.count) in
    elim (cases_lt (room way y) (room way x)) [ inl p ↦ inr p | inr p ↦ inl (room_same way x y e b.in_range w p) ]
