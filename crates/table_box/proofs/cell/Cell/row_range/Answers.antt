-- The loop looks at every line between the loads, and what holds at these and at both loads holds between.
use Rattle.std.proofs.Common.{◌≡◌, ◌∙◌, ap, arith, to_z-of_z}
use Rattle.std.specs.Int.{int_min, int_max}
use Rattle.xt_meaning.specs.Lookup.{span_of, value_in}
use Rattle.table_box.specs.Rows.{row_least, row_greatest}
use Rattle.table_box.specs.Spans.{span_in}
use Rattle.table_box.proofs.Places.{greatest_back, least_back, number_word}
use Rattle.table_box.proofs.Small.{alike_span}
use Rattle.table_box.proofs.Sweeps.{row_begins, row_done, row_goes_on}
use Rattle.table_box.proofs.cell.Cell.row_range.Goals as goal

pub value-start-requires-clause-load : goal.value-start-requires-clause-load
value-start-requires-clause-load c = c.requires.ends.start

pub end_value-end-requires-clause-slew : goal.end_value-end-requires-clause-slew
end_value-end-requires-clause-slew c = rw c.requires.ends.slew c.requires.slew

pub end_value-end-requires-clause-loads : goal.end_value-end-requires-clause-loads
end_value-end-requires-clause-loads c = rw c.requires.ends.table c.requires.ends.loads

pub end_value-end-requires-clause-start : goal.end_value-end-requires-clause-start
end_value-end-requires-clause-start c =
    rw c.requires.ends.table (to_z-of_z (number_word _ c.value-start.ensures.number) ∙ (c.value-start.ensures.value ∙ ap (value_in c.args.self.now.table.now (span_in c.args.slew.now)) c.requires.ends.loads.start))

pub value_on_line-value-requires-clause-slew : goal.value_on_line-value-requires-clause-slew
value_on_line-value-requires-clause-slew c = alike_span _ _ (span_in c.args.slew.now) c.requires.ends.first.slew c.requires.slew

pub value_on_line-value-requires-clause-line : goal.value_on_line-value-requires-clause-line
value_on_line-value-requires-clause-line c = let h = c.loop-line-test.true in let w = c.requires.ends.loads.last.within in omega (arith, h, w)

pub loop-line-init : goal.loop-line-init
loop-line-init c =
    let t = c.args.self.now.table.now in let s = span_in c.args.slew.now in let loads = c.args.loads.now in let r = c.requires.ends.loads in
    let range = c.joined-range.result in let e = c.joined-range.ensures in
    let end : c.end_value-end.result ≡ value_in t s (span_of t.loads loads.to) = rw c.requires.ends.table at c.end_value-end.ensures.value in
    row_begins t c.requires.ends.first.table s (alike_span _ _ s c.requires.ends.first.slew c.requires.slew) loads.from loads.to r.ordered loads.first c.value-start.result c.end_value-end.result range.0 range.1
    (c.value-start.ensures.value ∙ ap (value_in t s) r.start) end
    (e.least ∙ least_back _ _ c.value-start.ensures.number c.end_value-end.ensures.number) (e.greatest ∙ greatest_back _ _ c.value-start.ensures.number c.end_value-end.ensures.number)

pub loop-line-preserved : goal.loop-line-preserved
loop-line-preserved c =
    let t = c.args.self.now.table.now in let s = span_in c.args.slew.now in let loads = c.args.loads.now in let line = c.loop-line.line in let r = c.requires.ends.loads in
    let range = c.loop-line.range in let more = c.joined-range-in-loop-line.result in
    let e = c.joined-range-in-loop-line.ensures in let here = c.value_on_line-value.ensures in
    row_goes_on t c.requires.ends.first.table s (alike_span _ _ s c.requires.ends.first.slew c.requires.slew) loads.from loads.to r.ordered loads.first loads.last line
    c.value_on_line-value.result range.0 range.1 more.0 more.1 r.first r.last c.loop-line.auto.line c.loop-line-test.true
    here.value
    (e.least ∙ ap (int_min range.0) (to_z-of_z (number_word _ here.number))) (e.greatest ∙ ap (int_max range.1) (to_z-of_z (number_word _ here.number)))
    c.loop-line.invariant

both : (c : goal.After-loop-line) → (c.loop-line.range.0 ≡ row_least c.args.self.now.table.now (span_in c.args.slew.now) c.args.loads.now.from c.args.loads.now.to)
    × (c.loop-line.range.1 ≡ row_greatest c.args.self.now.table.now (span_in c.args.slew.now) c.args.loads.now.from c.args.loads.now.to)
both c =
    let loads = c.args.loads.now in let range = c.loop-line.range in let r = c.requires.ends.loads in let s = span_in c.args.slew.now in
    row_done c.args.self.now.table.now c.requires.ends.first.table s (alike_span _ _ s c.requires.ends.first.slew c.requires.slew) loads.from loads.to r.ordered loads.first loads.last c.loop-line.line range.0 range.1
    r.first r.last c.loop-line-test.false c.loop-line.invariant

pub returns-clause-least : goal.returns-clause-least
returns-clause-least c = (both c).0

pub returns-clause-greatest : goal.returns-clause-greatest
returns-clause-greatest c = (both c).1
