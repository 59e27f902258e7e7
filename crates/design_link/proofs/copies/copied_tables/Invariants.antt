use Rattle.std.proofs.Common.{◌≡◌, take}
use Rattle.std.specs.List.{All}
use Rattle.xt_model.specs.Tables.{IsTable}
use Rattle.design_link.proofs.copies.copied_tables.Given as goal

abbrev pub invariant-loop-table : goal.invariant-loop-table
invariant-loop-table l = record {
  value : l.tables.items ≡ take l.table-index l.library.tables;
  sound : All IsTable l.tables.items;
}
