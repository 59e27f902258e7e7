use Rattle.std.proofs.Common.{rules, ◌≡◌, ◌++◌, ◌∷◌, [], arith}
use Rattle.std.proofs.lemmas.Grind.{common_steps}
use Rattle.std.proofs.lemmas.List.{take_more}
use Rattle.std.proofs.lemmas.List.Elements.{All-push, All-same}
use Rattle.xt_model.specs.Tables.{IsTable}
use Rattle.design_link.proofs.copies.copied_tables.Goals as goal

pub loop-table-preserved : goal.loop-table-preserved
loop-table-preserved c =
    let e : c.push.new.self.items ≡ c.loop-table.tables.items ++ c.in_ok-copied_table.field-0 ∷ [] = search rules in
    record {
      value = grind (arith, common_steps, take_more);
      sound = All-same IsTable c.push.new.self.items (c.loop-table.tables.items ++ c.in_ok-copied_table.field-0 ∷ []) e
          (All-push IsTable c.loop-table.tables.items c.in_ok-copied_table.field-0 c.loop-table.invariant.sound c.in_ok-copied_table.ensures.sound);
    }
