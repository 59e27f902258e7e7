-- The quotient is that of the definition, and a number of the table's size.
use Rattle.std.proofs.Common.{◌≡◌, ◌^◌, sym, ◌∙◌, ap, subst, ℤ, pos, neg_ℤ, ◌+ℤ◌, ◌*ℤ◌, ◌≤ℤ◌, ◌<ℤ◌, ℕ, arith, to_z, of_z, to_z-of_z, w64, SFits}
use Rattle.std.specs.Int.{w128}
use Rattle.std.proofs.lemmas.Int.{ints}
use Rattle.xt_model.specs.Tables.{IsTableNumber}
use Rattle.xt_meaning.specs.Lookup.{Span, value_in}
use Rattle.table_box.specs.Spans.{IsSpan, span_in}
use Rattle.table_box.proofs.Bilinear.{value_number, value_by_load}
use Rattle.table_box.proofs.Widths.{wide_sum_fits, sum_same, factors_back, fraction_back, number_fits, number_back}
use Rattle.table_box.proofs.values.wide_value.Goals as goal

fits : (x : ℤ) → neg_ℤ (pos (2 ^ 82)) ≤ℤ x → x ≤ℤ pos (2 ^ 82) → SFits w128 x
fits x h k = omega (arith, ints)

wide : (x : ℤ) → neg_ℤ (pos (2 ^ 123)) ≤ℤ x → x ≤ℤ pos (2 ^ 123) → SFits w128 x
wide x h k = omega (arith, ints)

low_back : (x : ℤ) → neg_ℤ (pos (2 ^ 82)) ≤ℤ x → x ≤ℤ pos (2 ^ 82) → neg_ℤ (pos (2 ^ 82)) ≤ℤ to_z w128 (of_z w128 x)
low_back x h k = let P : ℤ → Type 0 = λ n. neg_ℤ (pos (2 ^ 82)) ≤ℤ n in subst P (sym (to_z-of_z (fits x h k))) h

high_back : (x : ℤ) → neg_ℤ (pos (2 ^ 82)) ≤ℤ x → x ≤ℤ pos (2 ^ 82) → to_z w128 (of_z w128 x) ≤ℤ pos (2 ^ 82)
high_back x h k = let P : ℤ → Type 0 = λ n. n ≤ℤ pos (2 ^ 82) in subst P (sym (to_z-of_z (fits x h k))) k

-- a distance or a width of a place, as the machine reads it
kept : (P : ℤ → Type 0) (x : ℤ) → pos 0 ≤ℤ x → x ≤ℤ pos (2 ^ 41) → P x → P (to_z w64 (of_z w64 x))
kept P x low high h = let small : SFits w64 x = omega (arith, ints) in subst P (sym (to_z-of_z small)) h

below_most : (n : ℕ) (s : Span) → IsSpan n s → s.below ≤ℤ pos (2 ^ 41)
below_most n s h = omega (arith, ints, h.whole, h.above, h.most)

above_most : (n : ℕ) (s : Span) → IsSpan n s → s.above ≤ℤ pos (2 ^ 41)
above_most n s h = omega (arith, ints, h.whole, h.below, h.most)

width_low : (n : ℕ) (s : Span) → IsSpan n s → pos 0 ≤ℤ s.width
width_low n s h = omega (arith, ints, h.positive)

-- a product of the code, with its first factor known by another name
part : (w n d v : ℤ) → w ≡ to_z w128 (of_z w128 n) *ℤ to_z w64 (of_z w64 d) → n ≡ v → SFits w128 n → SFits w64 d → w ≡ v *ℤ d
part w n d v e f p q = e ∙ (ap (λ x. x *ℤ to_z w64 (of_z w64 d)) (to_z-of_z p ∙ f) ∙ ap (λ x. v *ℤ x) (to_z-of_z q))

both : (a b x y : ℤ) → SFits w128 a → SFits w128 b → a ≡ x → b ≡ y → to_z w128 (of_z w128 a) +ℤ to_z w128 (of_z w128 b) ≡ x +ℤ y
both a b x y p q e f = sum_same _ _ _ _ (to_z-of_z p ∙ e) (to_z-of_z q ∙ f)

pub column_at-first-requires-clause-column : goal.column_at-first-requires-clause-column
column_at-first-requires-clause-column c = c.requires.load.first

pub column_at-second-requires-clause-column : goal.column_at-second-requires-clause-column
column_at-second-requires-clause-column c = c.requires.load.second

pub weighed-requires-clause-low : goal.weighed-requires-clause-low
weighed-requires-clause-low c =
    let h = c.requires.load in kept (λ n. pos 0 ≤ℤ n) c.args.load.now.below h.below (below_most _ _ h) h.below

pub weighed-requires-clause-high : goal.weighed-requires-clause-high
weighed-requires-clause-high c =
    let h = c.requires.load in kept (λ n. n ≤ℤ pos (2 ^ 41)) c.args.load.now.below h.below (below_most _ _ h) (below_most _ _ h)

pub weighed-requires-2-clause-low : goal.weighed-requires-2-clause-low
weighed-requires-2-clause-low c =
    let h = c.requires.load in kept (λ n. pos 0 ≤ℤ n) c.args.load.now.above h.above (above_most _ _ h) h.above

pub weighed-requires-2-clause-high : goal.weighed-requires-2-clause-high
weighed-requires-2-clause-high c =
    let h = c.requires.load in kept (λ n. n ≤ℤ pos (2 ^ 41)) c.args.load.now.above h.above (above_most _ _ h) (above_most _ _ h)

pub area-requires-clause-slew_low : goal.area-requires-clause-slew_low
area-requires-clause-slew_low c =
    let h = c.requires.slew in kept (λ n. pos 0 <ℤ n) c.args.slew.now.width (width_low _ _ h) h.most h.positive

pub area-requires-clause-slew_high : goal.area-requires-clause-slew_high
area-requires-clause-slew_high c =
    let h = c.requires.slew in kept (λ n. n ≤ℤ pos (2 ^ 41)) c.args.slew.now.width (width_low _ _ h) h.most h.most

pub area-requires-clause-load_low : goal.area-requires-clause-load_low
area-requires-clause-load_low c =
    let h = c.requires.load in kept (λ n. pos 0 <ℤ n) c.args.load.now.width (width_low _ _ h) h.most h.positive

pub area-requires-clause-load_high : goal.area-requires-clause-load_high
area-requires-clause-load_high c =
    let h = c.requires.load in kept (λ n. n ≤ℤ pos (2 ^ 41)) c.args.load.now.width (width_low _ _ h) h.most h.most

pub weighed-requires-clause-number_low : goal.weighed-requires-clause-number_low
weighed-requires-clause-number_low c = let e = c.column_at-first.ensures in low_back _ e.low e.high

pub weighed-requires-clause-number_high : goal.weighed-requires-clause-number_high
weighed-requires-clause-number_high c = let e = c.column_at-first.ensures in high_back _ e.low e.high

pub weighed-requires-2-clause-number_low : goal.weighed-requires-2-clause-number_low
weighed-requires-2-clause-number_low c = let e = c.column_at-second.ensures in low_back _ e.low e.high

pub weighed-requires-2-clause-number_high : goal.weighed-requires-2-clause-number_high
weighed-requires-2-clause-number_high c = let e = c.column_at-second.ensures in high_back _ e.low e.high

pub overflow_add-sum : goal.overflow_add-sum
overflow_add-sum c = let e = c.weighed.ensures in let f = c.weighed-2.ensures in wide_sum_fits c.weighed.result c.weighed-2.result e.low e.high f.low f.high

quotient : (c : goal.After-floor) → c.floor.result ≡ value_in c.args.table.now (span_in c.args.slew.now) (span_in c.args.load.now)
quotient c =
    let t = c.args.table.now in let slew = c.args.slew.now in let load = c.args.load.now in
    let x = c.column_at-first.ensures in let y = c.column_at-second.ensures in
    let e = c.weighed.ensures in let f = c.weighed-2.ensures in
    let slew_fits : SFits w64 slew.width = omega (arith, ints, c.requires.slew) in
    let load_fits : SFits w64 load.width = omega (arith, ints, c.requires.load) in
    let below_fits : SFits w64 load.below = omega (arith, ints, c.requires.load) in
    let above_fits : SFits w64 load.above = omega (arith, ints, c.requires.load) in
    let area_fits : SFits w128 c.area.result = omega (arith, ints, c.area.type_inv) in
    let first = part _ _ load.below _ e.value x.value (fits _ x.low x.high) below_fits in
    let second = part _ _ load.above _ f.value y.value (fits _ y.low y.high) above_fits in
    c.floor.ensures
    ∙ (fraction_back _ _ _ _ (wide_sum_fits c.weighed.result c.weighed-2.result e.low e.high f.low f.high) area_fits
    (both c.weighed.result c.weighed-2.result _ _ (wide _ e.low e.high) (wide _ f.low f.high) first second)
    (c.area.ensures.value ∙ factors_back slew.width load.width slew_fits load_fits)
    ∙ sym (value_by_load t (span_in slew) (span_in load)))

number : (c : goal.After-floor) → IsTableNumber c.floor.result
number c =
    subst IsTableNumber (sym (quotient c)) (value_number c.args.table.now c.requires.table (span_in c.args.slew.now) (span_in c.args.load.now) c.requires.slew c.requires.load)

pub overflow_cast-result : goal.overflow_cast-result
overflow_cast-result c = number_fits c.floor.result (number c)

pub returns-clause-value : goal.returns-clause-value
returns-clause-value c = number_back c.floor.result (number c) ∙ quotient c

pub returns-clause-number : goal.returns-clause-number
returns-clause-number c = subst IsTableNumber (sym (number_back c.floor.result (number c))) (number c)
