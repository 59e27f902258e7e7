-- Both outcomes of a test of two numbers, each with its fact.
use Rattle.std.proofs.Common.{◌≡◌, ◌⊎◌, inl, inr, refl, Bool, true, false, ℤ, pos, ◌+ℤ◌, ◌≤ℤ◌, arith}
use Rattle.std.specs.Prelude.{int_le, int_lt}
use Rattle.std.proofs.lemmas.Int.{ints}
use Rattle.xt_meaning.proofs.Order.{le_from_test}

pub true_or_false : (t : Bool) → (t ≡ true) ⊎ (t ≡ false)
true_or_false true = inl refl
true_or_false false = inr refl

gt_from_test : (a b : ℤ) → int_le a b ≡ false → (b +ℤ pos 1) ≤ℤ a
gt_from_test a b e = grind (arith, ints)

pub test_from_gt : (a b : ℤ) → (b +ℤ pos 1) ≤ℤ a → int_le a b ≡ false
test_from_gt a b h = grind (arith, ints)

lt_from_test : (a b : ℤ) → int_lt a b ≡ true → (a +ℤ pos 1) ≤ℤ b
lt_from_test a b e = grind (arith, ints)

ge_from_test : (a b : ℤ) → int_lt a b ≡ false → b ≤ℤ a
ge_from_test a b e = grind (arith, ints)

pub le_or_gt : (a b : ℤ) → ((int_le a b ≡ true) × (a ≤ℤ b)) ⊎ ((int_le a b ≡ false) × ((b +ℤ pos 1) ≤ℤ a))
le_or_gt a b = elim (true_or_false (int_le a b)) [
  | inl e ↦ inl (e, le_from_test a b e)
  | inr e ↦ inr (e, gt_from_test a b e)
]

pub lt_or_ge : (a b : ℤ) → ((int_lt a b ≡ true) × ((a +ℤ pos 1) ≤ℤ b)) ⊎ ((int_lt a b ≡ false) × (b ≤ℤ a))
lt_or_ge a b = elim (true_or_false (int_lt a b)) [
  | inl e ↦ inl (e, lt_from_test a b e)
  | inr e ↦ inr (e, ge_from_test a b e)
]

-- a number is at most another, or equal or above it by 1 or more
pub apart : (a b : ℤ) → ((a +ℤ pos 1) ≤ℤ b) ⊎ ((a ≡ b) ⊎ ((b +ℤ pos 1) ≤ℤ a))
apart a b = elim (le_or_gt a b) [
  | inr h ↦ inr (inr h.1)
  | inl h ↦ elim (le_or_gt b a) [
    | inr k ↦ inl k.1
    | inl k ↦ inr (inl (let x = h.1 in let y = k.1 in omega (arith, ints, x, y)))
  ]
]
