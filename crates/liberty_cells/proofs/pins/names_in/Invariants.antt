use Rattle.std.proofs.Common.{length}
use Rattle.std.specs.Prelude.{codes}
use Rattle.liberty_tables.specs.Search.{named_among}
use Rattle.liberty_cells.proofs.pins.names_in.Given as goal

abbrev pub decreases-pins : goal.decreases-pins
decreases-pins l = length (named_among l.bytes (codes "pin") l.rest)
