-- Where the values rise, the least and the greatest stand at the ends.
use Rattle.std.proofs.Common.{◌≡◌, ◌∙◌, refl, to_z-of_z}
use Rattle.xt_meaning.specs.Lookup.{value_in}
use Rattle.table_box.specs.Spans.{span_in}
use Rattle.table_box.proofs.Places.{number_word}
use Rattle.table_box.proofs.Small.{one_cell}
use Rattle.table_box.proofs.Rising.{rising_range}
use Rattle.table_box.proofs.cell.Cell.range.Goals as goal

pub value-least-requires-clause-slew : goal.value-least-requires-clause-slew
value-least-requires-clause-slew c =
    let r = c.requires.slews in
    rw c.requires.start (one_cell _ _ _ _ _ c.requires.ends.first.table.slews r.start r.start refl)

pub value-least-requires-clause-load : goal.value-least-requires-clause-load
value-least-requires-clause-load c = c.requires.ends.start

pub value-greatest-requires-clause-slew : goal.value-greatest-requires-clause-slew
value-greatest-requires-clause-slew c =
    let r = c.requires.slews in
    rw (c.requires.ends.slew, c.requires.start) (one_cell _ _ _ _ _ c.requires.ends.first.table.slews r.start r.end (r.one_cell c.requires.inside))

pub value-greatest-requires-clause-load : goal.value-greatest-requires-clause-load
value-greatest-requires-clause-load c = c.requires.ends.end

pub returns-then-rises_to : goal.returns-then-rises_to
returns-then-rises_to c =
    let e = c.value-least.ensures in let f = c.value-greatest.ensures in
    let greatest : c.value-greatest.result ≡ value_in c.args.self.now.table.now (span_in c.args.slews.now.end) (span_in c.args.loads.now.end) = rw c.requires.ends.table at f.value in
    rising_range c.args.self.now c.args.last.now c.args.loads.now c.requires.ends (c.if-rises_to.ensures refl) c.args.slews.now c.requires.slews c.requires.inside c.requires.start _ _
    (to_z-of_z (number_word _ e.number) ∙ e.value) (to_z-of_z (number_word _ f.number) ∙ greatest)
