use Rattle.std.proofs.Common.{◌≡◌, ◌++◌, map}
use Rattle.std.specs.Prelude.{flat_map}
use Rattle.std.specs.List.{range_with_len}
use Rattle.liberty_tables.specs.Tables.{column_of, value_at}
use Rattle.liberty_tables.proofs.table.by_columns.Given as goal

abbrev pub invariant-loop-column : goal.invariant-loop-column
invariant-loop-column l = l.turned ≡ flat_map (column_of l.rows l.columns l.values) (range_with_len 0 l.column)

abbrev pub invariant-loop-row : goal.invariant-loop-row
invariant-loop-row l =
    l.turned
    ≡ flat_map (column_of l.rows l.columns l.values) (range_with_len 0 l.column)
    ++ map (value_at l.columns l.values l.column) (range_with_len 0 l.row)
