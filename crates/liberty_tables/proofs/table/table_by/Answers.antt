use Rattle.std.proofs.Common.{◌≡◌, sym, ap, ◌∙◌}
use Rattle.std.specs.Prelude.{None}
use Rattle.liberty_tables.specs.Refusals.{earlier}
use Rattle.liberty_tables.specs.Tables.{order_fault, is_index}
use Rattle.liberty_tables.proofs.TableLaws.{first_fits, second_fits, count_fits}
use Rattle.liberty_tables.proofs.table.table_by.Goals as goal

pub arranged-requires-clause-outer : goal.arranged-requires-clause-outer
arranged-requires-clause-outer c =
    let order : earlier (order_fault c.args.axes.first) (order_fault c.args.axes.second) ≡ None =
    sym (rw (c.order_fault.ensures, c.order_fault-2.ensures) at c.in_default-earlier.ensures) in
    ap is_index c.in_ok-outer.ensures ∙ first_fits c.args.axes c.args.line c.numbers_or_none-values.result order (sym c.in_default-table_shape_fault.ensures)

pub arranged-requires-clause-inner : goal.arranged-requires-clause-inner
arranged-requires-clause-inner c =
    let order : earlier (order_fault c.args.axes.first) (order_fault c.args.axes.second) ≡ None =
    sym (rw (c.order_fault.ensures, c.order_fault-2.ensures) at c.in_default-earlier.ensures) in
    ap is_index c.in_ok-inner.ensures ∙ second_fits c.args.axes c.args.line c.numbers_or_none-values.result order (sym c.in_default-table_shape_fault.ensures)

pub arranged-requires-clause-count : goal.arranged-requires-clause-count
arranged-requires-clause-count c =
    let order : earlier (order_fault c.args.axes.first) (order_fault c.args.axes.second) ≡ None =
    sym (rw (c.order_fault.ensures, c.order_fault-2.ensures) at c.in_default-earlier.ensures) in
    rw (c.in_ok-outer.ensures, c.in_ok-inner.ensures) (count_fits c.args.axes c.args.line c.numbers_or_none-values.result order (sym c.in_default-table_shape_fault.ensures))
