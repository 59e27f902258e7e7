-- The quotient is that of the definition, and a number of the table's size.
use Rattle.std.proofs.Common.{◌≡◌, ◌^◌, sym, ◌∙◌, subst, get_or, ℤ, pos, neg_ℤ, ◌≤ℤ◌, arith, to_z-of_z, w64, SFits}
use Rattle.std.specs.Int.{w128}
use Rattle.std.proofs.lemmas.Int.{ints}
use Rattle.xt_model.specs.Tables.{IsTableNumber}
use Rattle.xt_meaning.specs.Lookup.{span_of, value_in}
use Rattle.table_box.specs.Spans.{span_in}
use Rattle.table_box.proofs.Axis.{span_of_sound}
use Rattle.table_box.proofs.Bilinear.{value_number, on_line}
use Rattle.table_box.proofs.Widths.{fraction_back, number_fits, number_back}
use Rattle.table_box.proofs.values.value_on_line.Goals as goal

fits : (x : ℤ) → neg_ℤ (pos (2 ^ 82)) ≤ℤ x → x ≤ℤ pos (2 ^ 82) → SFits w128 x
fits x h k = omega (arith, ints)

quotient : (c : goal.After-floor) → c.floor.result ≡ value_in c.args.table.now (span_in c.args.slew.now) (span_of c.args.table.now.loads (get_or c.args.table.now.loads c.args.line (pos 0)))
quotient c =
    let e = c.column_at.ensures in
    let width_fits : SFits w64 c.args.slew.now.width = omega (arith, ints, c.requires.slew) in
    let from_fits : SFits w128 c.from.result = omega (arith, ints, c.from.type_inv) in
    c.floor.ensures
    ∙ (fraction_back _ _ _ _ (fits _ e.low e.high) from_fits e.value (c.from.ensures ∙ to_z-of_z width_fits)
    ∙ sym (on_line c.args.table.now c.requires.table (span_in c.args.slew.now) c.requires.slew c.args.line c.requires.line))

number : (c : goal.After-floor) → IsTableNumber c.floor.result
number c =
    let t = c.args.table.now in
    subst IsTableNumber (sym (quotient c))
    (value_number t c.requires.table (span_in c.args.slew.now) (span_of t.loads (get_or t.loads c.args.line (pos 0))) c.requires.slew (span_of_sound t.loads c.requires.table.loads (get_or t.loads c.args.line (pos 0))))

pub overflow_cast-result : goal.overflow_cast-result
overflow_cast-result c = number_fits c.floor.result (number c)

pub returns-clause-value : goal.returns-clause-value
returns-clause-value c = number_back c.floor.result (number c) ∙ quotient c

pub returns-clause-number : goal.returns-clause-number
returns-clause-number c = subst IsTableNumber (sym (number_back c.floor.result (number c))) (number c)
