-- Numbers of texts keep their range.
use Rattle.std.specs.Prelude.{◌≡◌, refl, ℕ, zero, suc, ◌^◌, ◌≤◌, Bool, true, false, nat_lt, ℤ, pos, int_le, List, Option, Some, None, Ok, Err}
use Rattle.std.specs.Prelude.{if◌then◌else◌}
use Rattle.std.proofs.Common.{arith}
use Rattle.std.proofs.lemmas.Bool.{ltb-false, false≢true}
use Rattle.std.proofs.lemmas.Int.{ints}
use Rattle.xt_number.specs.declared.fault.NumberFault.TheVariants as fault
use Rattle.xt_number.specs.Numeral.{Numeral}
use Rattle.xt_number.specs.Quantities.{IsQuantity}
use Rattle.xt_number.specs.Value.{signed, digit_count, size, scaled, fixed_from, fixed}
use Rattle.xt_number.specs.Reading.{numeral_of}

pub zero_is : IsQuantity (pos 0)
zero_is = record { least = omega arith; most = omega arith }

sized_is : (negative : Bool) (n : ℕ) → n ≤ 2 ^ 40 → int_le (pos 0) (signed negative n) ≡ true → IsQuantity (signed negative n)
sized_is true zero h e = zero_is
sized_is true (suc n) h e = absurd (false≢true e)
sized_is false n h e = record { least = omega (arith, ints); most = omega (arith, ints) }

module _ (scale v : ℤ) (low : int_le (pos 0) v ≡ true) where
  by_tests : (n : Numeral) (a b : Bool) → nat_lt (2 ^ 40) (size n scale) ≡ b
      → (if a then Err fault.Digits else if b then Err fault.Range else Ok (scaled n scale)) ≡ Ok v → IsQuantity v
  by_tests n true b e h = absurd (cc)
  by_tests n false true e h = absurd (cc)
  by_tests n false false e h =
      let same : scaled n scale ≡ v = cc in
      let low' : int_le (pos 0) (scaled n scale) ≡ true = rw same low in
      rw same at (sized_is n.negative (size n scale) (ltb-false (2 ^ 40) (size n scale) e) low')

  by_numeral : (o : Option Numeral) → fixed_from o scale ≡ Ok v → IsQuantity v
  by_numeral None h = absurd (cc)
  by_numeral (Some n) h = by_tests n (nat_lt 30 (digit_count n)) (nat_lt (2 ^ 40) (size n scale)) refl h

  -- a number that is taken and is not below 0 is a quantity
  pub quantity_from : (text : List ℕ) → fixed text scale ≡ Ok v → IsQuantity v
  unfolding fixed
  quantity_from text h = by_numeral (numeral_of text) h
