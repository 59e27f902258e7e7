-- The ends of a range of slews and of loads are places on their axes.
use Rattle.std.proofs.Common.{◌∙◌, to_z-of_z}
use Rattle.table_box.proofs.Places.{number_word}
use Rattle.table_box.proofs.Sizes.{monotone_corners}
use Rattle.table_box.proofs.monotone.monotone_range.Goals as goal

pub small_value-least-requires-clause-slew : goal.small_value-least-requires-clause-slew
small_value-least-requires-clause-slew c = record { number = _; place = c.requires.slews.start }

pub small_value-least-requires-clause-load : goal.small_value-least-requires-clause-load
small_value-least-requires-clause-load c = record { number = _; place = c.requires.loads.start }

pub small_value-greatest-requires-clause-slew : goal.small_value-greatest-requires-clause-slew
small_value-greatest-requires-clause-slew c = record { number = _; place = c.requires.slews.end }

pub small_value-greatest-requires-clause-load : goal.small_value-greatest-requires-clause-load
small_value-greatest-requires-clause-load c = record { number = _; place = c.requires.loads.end }

pub returns : goal.returns
returns c =
    let e = c.small_value-least.ensures in let f = c.small_value-greatest.ensures in
    monotone_corners c.args.table.now c.requires.table c.requires.monotone c.args.slews.now c.args.loads.now c.requires.slews c.requires.loads _ _
    (to_z-of_z (number_word _ e.number) ∙ e.value) (to_z-of_z (number_word _ f.number) ∙ f.value)
