use Rattle.std.proofs.Common.{◌≡◌, length}
use Rattle.std.specs.Prelude.{codes}
use Rattle.liberty_groups.specs.Trees.{tree_of}
use Rattle.text_forms.specs.Refusals.{over}
use Rattle.liberty_tables.specs.Search.{named_among}
use Rattle.liberty_tables.specs.Templates.{add_template, templates_of}
use Rattle.liberty_tables.proofs.template.templates_of.Given as goal

abbrev pub invariant-templates : goal.invariant-templates
invariant-templates l =
    over (add_template l.bytes l.scales) (named_among l.bytes (codes "lu_table_template") l.rest) l.templates
    ≡ templates_of l.bytes l.scales (tree_of l.library)

abbrev pub decreases-templates : goal.decreases-templates
decreases-templates l = length (named_among l.bytes (codes "lu_table_template") l.rest)
