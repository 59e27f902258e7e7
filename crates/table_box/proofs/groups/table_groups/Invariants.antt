use Rattle.std.proofs.Common.{◌≤◌}
use Rattle.table_box.proofs.Grouping.{AreGrouped}
use Rattle.table_box.proofs.groups.table_groups.Given as goal

abbrev pub invariant-loop-number : goal.invariant-loop-number
invariant-loop-number l = record { groups : AreGrouped l.tables l.groups.items l.number; head : l.head ≤ l.number }
