use Rattle.std.proofs.Common.{◌≡◌, rules}
use Rattle.std.proofs.lemmas.Int.{to_z-of_z}
use mir.Syntax.{w64}
use mir.Val.{to_z, of_z}
use Rattle.liberty_tables.proofs.NumberLaws.{item_turn}
use Rattle.liberty_tables.proofs.numbers.add_numbers.Goals as goal

pub items-preserved : goal.items-preserved
items-preserved c =
    let same : to_z w64 (of_z w64 c.in-Ok.number) ≡ c.in-Ok.number = search (rules, to_z-of_z) in
    item_turn _ _ _ _ _ _ _ _ _ c.in-Some.ensures c.in-Ok.ensures.exact same c.in_ok-push-in-Ok.ensures c.items.invariant
