use Rattle.std.proofs.Common.{◌≡◌, sym, ap, ◌∙◌, ◌++◌, map, rules, false}
use Rattle.text_forms.specs.Names.{is_name}
use Rattle.liberty_tables.specs.Contents.{content}
use Rattle.liberty_cells.proofs.NamesLaws.{name_refused}
use Rattle.liberty_cells.proofs.names.names_of_group.Goals as goal

pub returns-then-not-is_name : goal.returns-then-not-is_name
returns-then-not-is_name c =
    let refused : is_name (content c.args.bytes.now c.in-Some.arg.now) ≡ false = search rules in
    name_refused c.args.line c.names.names.items _ _ (content c.args.bytes.now c.in-Some.arg.now)
    (ap (λ args. c.names.names.items ++ map (content c.args.bytes.now) args) (sym c.in-Some.ensures.cases.0) ∙ c.names.invariant.items) refused
