use Rattle.std.proofs.Common.{◌≡◌, ℕ, ◌+◌, ◌-◌, ◌<◌, ◌∙◌, refl, ap, sym, subst, length, arith}
use Rattle.std.proofs.lemmas.Option.{get_or_from_slice_get, slice_get_read}
use Rattle.xt_model.specs.Tables.{TableParts}
use Rattle.table_box.specs.Monotone.{IsMonotone}
use Rattle.table_box.proofs.groups.group_of.Goals as goal

less_one : (n : ℕ) → n + 1 - 1 ≡ n
less_one n = omega arith

pub bounds-tables-number : goal.bounds-tables-number
bounds-tables-number c = c.requires.number

pub bounds-tables-number-2 : goal.bounds-tables-number-2
bounds-tables-number-2 c = c.requires.number

pub bounds-tables-head : goal.bounds-tables-head
bounds-tables-head c = omega (arith, c.requires.number, c.requires.head)

pub returns-then-not-is_monotone-clause-grouped : goal.returns-then-not-is_monotone-clause-grouped
returns-then-not-is_monotone-clause-grouped c = λ t there some. absurd (omega (arith, some))

pub returns-then-have_same_axes-clause-grouped : goal.returns-then-have_same_axes-clause-grouped
returns-then-have_same_axes-clause-grouped c = λ t there some.
    let tables = c.args.tables.now in
    let is = c.index-tables-number.is ∙ get_or_from_slice_get tables c.args.number t c.index-tables-number.result there in
    let again = c.index-tables-number-2.is ∙ get_or_from_slice_get tables c.args.number t c.index-tables-number-2.result there in
    let axes = c.have_same_axes.ensures.axes c.if-have_same_axes.true in
    let below : c.args.head < length tables = omega (arith, c.requires.number, c.requires.head) in
    record {
      monotone = subst IsMonotone is (c.if-not-is_monotone.ensures refl);
      head = c.index-tables-head.result;
      there = rw (less_one c.args.head) (slice_get_read tables (length tables) c.args.head c.index-tables-head.result refl below c.index-tables-head.is);
      slews = ap (λ (u : TableParts). u.slews) (sym again) ∙ axes.0;
      loads = ap (λ (u : TableParts). u.loads) (sym again) ∙ axes.1;
    }

pub returns-clause-grouped : goal.returns-clause-grouped
returns-clause-grouped c = λ t there some.
    let is = c.index-tables-number.is ∙ get_or_from_slice_get c.args.tables.now c.args.number t c.index-tables-number.result there in
    record {
      monotone = subst IsMonotone is (c.if-not-is_monotone.ensures refl);
      head = t;
      there = rw (less_one c.args.number) there;
      slews = refl;
      loads = refl;
    }
