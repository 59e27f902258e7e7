use Rattle.std.proofs.Common.{◌≡◌, [], length}
use Rattle.std.specs.Prelude.{false}
use Rattle.std.specs.List.{list_all}
use Rattle.text_forms.specs.Names.{is_name}
use Rattle.liberty_tables.specs.Contents.{items_from}
use Rattle.liberty_cells.proofs.related.are_names.Given as goal

abbrev pub invariant-items : goal.invariant-items
invariant-items l = list_all is_name (items_from false [] l.rest) ≡ list_all is_name (items_from false [] l.text)

abbrev pub decreases-items : goal.decreases-items
decreases-items l = length (items_from false [] l.rest)
