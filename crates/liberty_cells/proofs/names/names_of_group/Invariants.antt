use Rattle.std.proofs.Common.{◌≡◌, ◌++◌, length, map, true}
use Rattle.std.specs.List.{list_all}
use Rattle.text_forms.specs.Names.{is_name}
use Rattle.liberty_tables.specs.Contents.{content}
use Rattle.liberty_cells.proofs.names.names_of_group.Given as goal

abbrev pub invariant-names : goal.invariant-names
invariant-names l = record {
  items : l.names.items ++ map (content l.bytes) l.rest ≡ map (content l.bytes) l.args;
  named : list_all is_name l.names.items ≡ true;
}

abbrev pub decreases-names : goal.decreases-names
decreases-names l = length l.rest
