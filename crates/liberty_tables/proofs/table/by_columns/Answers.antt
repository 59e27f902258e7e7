use Rattle.std.proofs.Common.{◌≡◌, ap, ◌∙◌, rules}
use Rattle.std.proofs.lemmas.Int.{to_z-of_z}
use Rattle.std.specs.Prelude.{pos}
use Rattle.std.specs.List.{slice_index_or}
use mir.Syntax.{w64}
use mir.Val.{to_z, of_z}
use Rattle.liberty_tables.specs.Tables.{value_at}
use Rattle.liberty_tables.proofs.TableLaws.{row_turn}
use Rattle.liberty_tables.proofs.table.by_columns.Goals as goal

pub loop-row-preserved : goal.loop-row-preserved
loop-row-preserved c =
    let same : to_z w64 (of_z w64 c.at.result) ≡ c.at.result = search (rules, to_z-of_z) in
    let value : c.at.result ≡ value_at c.args.columns c.args.values.now c.loop-column.column c.loop-row.row =
    c.at.ensures.value ∙ ap (λ place. slice_index_or c.args.values.now place (pos 0)) c.place_of.ensures in
    row_turn _ (value_at c.args.columns c.args.values.now c.loop-column.column) c.loop-row.row _ _ _ _ c.loop-row.invariant value same
    c.in_ok-push.ensures
