-- The new line is above the one before it, and so above all.
use Rattle.std.proofs.Common.{◌≡◌, ℕ, ◌+◌, ◌-◌, ◌<◌, ◌≤◌, inl, inr, subst, get_or, arith, rules, false, int_le, to_z, of_z, to_z-of_z, w64, SFits, ℤ, pos, ◌<ℤ◌}
use Rattle.std.proofs.lemmas.Bool.{cases_lt}
use Rattle.std.proofs.lemmas.Int.{ints}
use Rattle.part_tests.proofs.tables.rises.Goals as goal

turn : (f : ℕ → ℤ) (n : ℕ) → 1 ≤ n → ((i j : ℕ) → i < j → j < n → f i <ℤ f j) → f (n - 1) <ℤ f n → (i j : ℕ) → i < j → j < n + 1 → f i <ℤ f j
turn f n some below step i j h k = elim (cases_lt j n) [
  | inl p ↦ below i j h p
  | inr p ↦ let e : n ≡ j = omega arith in subst (λ (m : ℕ). f i <ℤ f m) e (elim (cases_lt i (n - 1)) [
    | inl q ↦ let a = below i (n - 1) q (omega arith) in omega (arith, ints, a, step)
    | inr q ↦ let e : n - 1 ≡ i = omega arith in subst (λ (m : ℕ). f m <ℤ f n) e step
  ])
]

greater : (a b : ℤ) → int_le a b ≡ false → b <ℤ a
greater a b h = grind (arith, ints)

above : (a b : ℤ) → SFits w64 a → SFits w64 b → int_le (to_z w64 (of_z w64 a)) (to_z w64 (of_z w64 b)) ≡ false → b <ℤ a
above a b p q h = greater a b (subst (λ (n : ℤ). int_le n b ≡ false) (to_z-of_z p) (subst (λ (n : ℤ). int_le (to_z w64 (of_z w64 a)) n ≡ false) (to_z-of_z q) h))

pub loop-line-preserved : goal.loop-line-preserved
loop-line-preserved c =
    let line : SFits w64 (get_or c.args.index.now c.loop-line.line (pos 0)) = search rules in
    let before : SFits w64 (get_or c.args.index.now (c.loop-line.line - 1) (pos 0)) = search rules in
    turn (λ i. get_or c.args.index.now i (pos 0)) c.loop-line.line c.loop-line.auto.line c.loop-line.invariant (above _ _ line before c.if-index-line.false)
