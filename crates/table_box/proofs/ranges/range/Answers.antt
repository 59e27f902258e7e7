use Rattle.std.proofs.Common.{◌≡◌, ◌∙◌, ap, to_z-of_z}
use Rattle.xt_meaning.specs.Lookup.{Box, table_value, least_over, greatest_over}
use Rattle.table_box.specs.Stretches.{box_of}
use Rattle.table_box.proofs.Places.{same_box}
use Rattle.table_box.proofs.ranges.range.Goals as goal

box_is : (c : goal.After-box_range) → ◌≡◌ {A = Box} (box_of c.of-slews.result c.of-loads.result) (record { s0 = c.args.s0; s1 = c.args.s1; c0 = c.args.c0; c1 = c.args.c1 })
box_is c =
    let slews = c.of-slews.ensures in
    let loads = c.of-loads.ensures in
    same_box _ _ _ _ _ _ _ _ (slews.from ∙ to_z-of_z c.ranges.s0) (slews.to ∙ to_z-of_z c.ranges.s1) (loads.from ∙ to_z-of_z c.ranges.c0) (loads.to ∙ to_z-of_z c.ranges.c1)

pub returns-clause-least : goal.returns-clause-least
returns-clause-least c = c.box_range.ensures.least ∙ ap (least_over (table_value c.args.table.now)) (box_is c)

pub returns-clause-greatest : goal.returns-clause-greatest
returns-clause-greatest c = c.box_range.ensures.greatest ∙ ap (greatest_over (table_value c.args.table.now)) (box_is c)
