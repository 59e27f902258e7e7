-- A text is a number unless its value has the fault of the form.
use Rattle.std.specs.Prelude.{◌≡◌, refl, ℤ, Bool, true, false, not, if◌then◌else◌, List, ℕ, nat_lt, ◌^◌}
use Rattle.std.specs.Prelude.{Option, Some, None, is_some, Result, Ok, Err}
use Rattle.std.proofs.Common.{sym, ap, ◌∙◌}
use Rattle.xt_number.specs.declared.fault.NumberFault.{NumberFault}
use Rattle.xt_number.specs.declared.fault.NumberFault.TheVariants as fault
use Rattle.xt_number.specs.Numeral.{Numeral}
use Rattle.xt_number.specs.Reading.{numeral_of}
use Rattle.xt_number.specs.Value.{fixed, fixed_from, digit_count, size, scaled}
use Rattle.sdc_forms.specs.Options.{is_number}
use Rattle.sdc_forms.specs.View.{is_form}

other : (long far : Bool) (x : ℤ) → is_form (if long then Err fault.Digits else if far then Err fault.Range else Ok x) ≡ false
other true far x = refl
other false true x = refl
other false false x = refl

number_from : (o : Option Numeral) (z : ℤ) → is_some o ≡ not (is_form (fixed_from o z))
number_from None z = refl
number_from (Some n) z = ap not (sym (other (nat_lt 30 (digit_count n)) (nat_lt (2 ^ 40) (size n z)) (scaled n z)))

pub number_form : (word : List ℕ) (z : ℤ) (r : Result ℤ NumberFault) → r ≡ fixed word z → not (is_form r) ≡ is_number word
unfolding fixed
number_form word z r h = ap (λ x. not (is_form x)) h ∙ sym (number_from (numeral_of word) z)
