-- The loop looks at every line between the loads, and what holds at these and at both loads holds between.
use Rattle.std.proofs.Common.{◌≡◌, ◌∙◌, ap, arith, to_z-of_z}
use Rattle.std.specs.Int.{int_min, int_max}
use Rattle.xt_meaning.specs.Lookup.{value_in}
use Rattle.table_box.specs.Rows.{row_least, row_greatest}
use Rattle.table_box.specs.Spans.{span_in}
use Rattle.table_box.proofs.Places.{greatest_back, least_back, number_word, placed_sound}
use Rattle.table_box.proofs.Sweeps.{row_begins, row_done, row_goes_on}
use Rattle.table_box.proofs.ranges.row_range.Goals as goal

pub value_at-start-requires-clause-load : goal.value_at-start-requires-clause-load
value_at-start-requires-clause-load c = placed_sound _ _ _ c.requires.table.loads c.requires.loads.start

pub end_value-end-requires-clause-start : goal.end_value-end-requires-clause-start
end_value-end-requires-clause-start c =
    to_z-of_z (number_word _ c.value_at-start.ensures.number) ∙ (c.value_at-start.ensures.value ∙ ap (value_in c.args.table.now (span_in c.args.slew.now)) c.requires.loads.start)

pub value_on_line-value-requires-clause-line : goal.value_on_line-value-requires-clause-line
value_on_line-value-requires-clause-line c = let h = c.loop-line-test.true in let w = c.requires.loads.last.within in omega (arith, h, w)

pub loop-line-init : goal.loop-line-init
loop-line-init c =
    let t = c.args.table.now in let s = span_in c.args.slew.now in let loads = c.args.loads.now in
    let range = c.joined-range.result in let e = c.joined-range.ensures in
    row_begins t c.requires.table s c.requires.slew loads.from loads.to c.requires.loads.ordered loads.first c.value_at-start.result c.end_value-end.result range.0 range.1
    (c.value_at-start.ensures.value ∙ ap (value_in t s) c.requires.loads.start) c.end_value-end.ensures.value
    (e.least ∙ least_back _ _ c.value_at-start.ensures.number c.end_value-end.ensures.number) (e.greatest ∙ greatest_back _ _ c.value_at-start.ensures.number c.end_value-end.ensures.number)

pub loop-line-preserved : goal.loop-line-preserved
loop-line-preserved c =
    let t = c.args.table.now in let s = span_in c.args.slew.now in let loads = c.args.loads.now in let line = c.loop-line.line in
    let range = c.loop-line.range in let more = c.joined-range-in-loop-line.result in
    let e = c.joined-range-in-loop-line.ensures in let here = c.value_on_line-value.ensures in
    row_goes_on t c.requires.table s c.requires.slew loads.from loads.to c.requires.loads.ordered loads.first loads.last line
    c.value_on_line-value.result range.0 range.1 more.0 more.1 c.requires.loads.first c.requires.loads.last c.loop-line.auto.line c.loop-line-test.true
    here.value
    (e.least ∙ ap (int_min range.0) (to_z-of_z (number_word _ here.number))) (e.greatest ∙ ap (int_max range.1) (to_z-of_z (number_word _ here.number)))
    c.loop-line.invariant

both : (c : goal.After-loop-line) → (c.loop-line.range.0 ≡ row_least c.args.table.now (span_in c.args.slew.now) c.args.loads.now.from c.args.loads.now.to)
    × (c.loop-line.range.1 ≡ row_greatest c.args.table.now (span_in c.args.slew.now) c.args.loads.now.from c.args.loads.now.to)
both c =
    let loads = c.args.loads.now in let range = c.loop-line.range in
    row_done c.args.table.now c.requires.table (span_in c.args.slew.now) c.requires.slew loads.from loads.to c.requires.loads.ordered loads.first loads.last c.loop-line.line range.0 range.1
    c.requires.loads.first c.requires.loads.last c.loop-line-test.false c.loop-line.invariant

pub returns-clause-least : goal.returns-clause-least
returns-clause-least c = (both c).0

pub returns-clause-greatest : goal.returns-clause-greatest
returns-clause-greatest c = (both c).1
