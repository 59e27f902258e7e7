-- The values at the least and at the greatest slew and load are the least and the greatest.
use Rattle.std.proofs.Common.{◌∙◌, to_z-of_z}
use Rattle.table_box.proofs.Places.{number_word, placed_sound}
use Rattle.table_box.proofs.Ascending.{corners_hold}
use Rattle.table_box.proofs.corners.corner_range.Goals as goal

pub do_all_rise-requires-clause-rows : goal.do_all_rise-requires-clause-rows
do_all_rise-requires-clause-rows c = (placed_sound _ _ _ c.requires.table.slews c.requires.slews.end).second

pub do_all_rise-requires-clause-columns : goal.do_all_rise-requires-clause-columns
do_all_rise-requires-clause-columns c = (placed_sound _ _ _ c.requires.table.loads c.requires.loads.end).second

pub value_at-least-requires-clause-slew : goal.value_at-least-requires-clause-slew
value_at-least-requires-clause-slew c = placed_sound _ _ _ c.requires.table.slews c.requires.slews.start

pub value_at-least-requires-clause-load : goal.value_at-least-requires-clause-load
value_at-least-requires-clause-load c = placed_sound _ _ _ c.requires.table.loads c.requires.loads.start

pub value_at-greatest-requires-clause-slew : goal.value_at-greatest-requires-clause-slew
value_at-greatest-requires-clause-slew c = placed_sound _ _ _ c.requires.table.slews c.requires.slews.end

pub value_at-greatest-requires-clause-load : goal.value_at-greatest-requires-clause-load
value_at-greatest-requires-clause-load c = placed_sound _ _ _ c.requires.table.loads c.requires.loads.end

pub returns : goal.returns
returns c =
    let e = c.value_at-least.ensures in let f = c.value_at-greatest.ensures in
    corners_hold c.args.table.now c.requires.table c.args.slews.now c.args.loads.now c.requires.slews c.requires.loads (c.do_all_rise.ensures c.if-not-do_all_rise.false) _ _
    (to_z-of_z (number_word _ e.number) ∙ e.value) (to_z-of_z (number_word _ f.number) ∙ f.value)
