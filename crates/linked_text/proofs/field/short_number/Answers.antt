use Rattle.std.proofs.Common.{◌≡◌, ◌<◌, length, get_or, arith, inl, inr}
use Rattle.std.proofs.lemmas.Bool.Decides.{nat_tests}
use Rattle.linked_text.proofs.ShortNumbers.{found_short, needless_zero, nothing}
use Rattle.linked_text.proofs.field.short_number.Goals as goal

pub returns-then-is_empty : goal.returns-then-is_empty
returns-then-is_empty c = let empty : length c.args.field.now ≡ 0 = grind (arith, nat_tests) in nothing c.args.field.now empty

pub returns-then-field-gt1 : goal.returns-then-field-gt1
returns-then-field-gt1 c = needless_zero c.args.field.now c.if-field-eq48.true c.if-field-gt1.true

pub returns : goal.returns
returns c =
    let ds = c.args.field.now in
    let some : 0 < length ds = grind (arith, nat_tests) in
    let lead : get_or ds 0 0 ≡ 48 → length ds ≡ 1 = λ zero_first.
    elim c.else-field-eq48.either [
      | inl h ↦ omega (arith, h, some)
      | inr h ↦ absurd (h zero_first)
    ] in
    found_short ds c.short_value.result c.requires some lead c.short_value.ensures
