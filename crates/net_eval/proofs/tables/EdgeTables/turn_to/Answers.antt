use Rattle.std.proofs.Common.{refl}
use Rattle.net_eval.proofs.Nets.{tables_named}
use Rattle.net_eval.proofs.tables.EdgeTables.turn_to.Goals as goal

pub returns-then-are_named_by : goal.returns-then-are_named_by
returns-then-are_named_by c =
    let same = c.if-are_named_by.ensures refl in
    tables_named _ _ _ _ c.requires.tables same.0 same.1
