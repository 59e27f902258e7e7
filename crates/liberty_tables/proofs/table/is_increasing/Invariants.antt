use Rattle.std.proofs.Common.{◌≡◌, length}
use Rattle.liberty_tables.specs.Tables.{is_increasing}
use Rattle.liberty_tables.proofs.table.is_increasing.Given as goal

abbrev pub invariant-numbers : goal.invariant-numbers
invariant-numbers l = is_increasing l.rest ≡ is_increasing l.numbers

abbrev pub decreases-numbers : goal.decreases-numbers
decreases-numbers l = length l.rest
