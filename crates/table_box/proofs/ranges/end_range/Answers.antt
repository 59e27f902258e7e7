use Rattle.std.proofs.Common.{◌∙◌, ap}
use Rattle.xt_meaning.specs.Lookup.{span_of}
use Rattle.table_box.specs.Rows.{row_least, row_greatest}
use Rattle.table_box.proofs.Places.{placed_sound}
use Rattle.table_box.proofs.ranges.end_range.Goals as goal

pub returns-then-slews-clause-least : goal.returns-then-slews-clause-least
returns-then-slews-clause-least c =
    let t = c.args.table.now in
    c.requires.least ∙ ap (λ x. row_least t (span_of t.slews x) c.args.loads.now.from c.args.loads.now.to) (c.requires.slews.single c.if-slews.true)

pub returns-then-slews-clause-greatest : goal.returns-then-slews-clause-greatest
returns-then-slews-clause-greatest c =
    let t = c.args.table.now in
    c.requires.greatest ∙ ap (λ x. row_greatest t (span_of t.slews x) c.args.loads.now.from c.args.loads.now.to) (c.requires.slews.single c.if-slews.true)

pub row_range-requires-clause-slew : goal.row_range-requires-clause-slew
row_range-requires-clause-slew c = placed_sound _ _ _ c.requires.table.slews c.requires.slews.end
