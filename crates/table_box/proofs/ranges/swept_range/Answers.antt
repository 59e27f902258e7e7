-- The loop looks at every row between the slews, and what holds of these and at both slews holds between.
use Rattle.std.proofs.Common.{◌≡◌, ◌∙◌, ap, sym, subst, get_or, pos}
use Rattle.xt_model.specs.Tables.{IsTableNumber}
use Rattle.xt_meaning.specs.Lookup.{table_value, least_over, greatest_over}
use Rattle.table_box.specs.Rows.{row_least, row_greatest}
use Rattle.table_box.specs.Spans.{span_in}
use Rattle.table_box.specs.Stretches.{box_of}
use Rattle.table_box.proofs.Places.{line_placed, placed_sound}
use Rattle.table_box.proofs.Sweeps.{box_begins, box_done, box_goes_on, least_number, greatest_number}
use Rattle.table_box.proofs.ranges.swept_range.Goals as goal

pub row_range-start-requires-clause-slew : goal.row_range-start-requires-clause-slew
row_range-start-requires-clause-slew c = placed_sound _ _ _ c.requires.table.slews c.requires.slews.start

pub row_range-requires-clause-slew : goal.row_range-requires-clause-slew
row_range-requires-clause-slew c =
    placed_sound c.args.table.now.slews (get_or c.args.table.now.slews c.loop-line.line (pos 0)) (span_in c.on_line.result) c.requires.table.slews
    (line_placed _ _ c.loop-line.line _ c.slews.ensures.value c.on_line.ensures)

pub end_range-end-requires-clause-least : goal.end_range-end-requires-clause-least
end_range-end-requires-clause-least c =
    c.row_range-start.ensures.least ∙ ap (λ s. row_least c.args.table.now s c.args.loads.now.from c.args.loads.now.to) c.requires.slews.start

pub end_range-end-requires-clause-greatest : goal.end_range-end-requires-clause-greatest
end_range-end-requires-clause-greatest c =
    c.row_range-start.ensures.greatest ∙ ap (λ s. row_greatest c.args.table.now s c.args.loads.now.from c.args.loads.now.to) c.requires.slews.start

pub loop-line-init : goal.loop-line-init
loop-line-init c =
    let t = c.args.table.now in let slews = c.args.slews.now in let loads = c.args.loads.now in let range = c.joined-range.result in
    box_begins t c.requires.table slews.from slews.to loads.from loads.to c.requires.slews.ordered c.requires.loads.ordered slews.first _ _ _ _ range.0 range.1
    (c.row_range-start.ensures.least ∙ ap (λ s. row_least t s loads.from loads.to) c.requires.slews.start)
    (c.row_range-start.ensures.greatest ∙ ap (λ s. row_greatest t s loads.from loads.to) c.requires.slews.start)
    c.end_range-end.ensures.least c.end_range-end.ensures.greatest c.joined-range.ensures.least c.joined-range.ensures.greatest

pub loop-line-preserved : goal.loop-line-preserved
loop-line-preserved c =
    let t = c.args.table.now in let slews = c.args.slews.now in let loads = c.args.loads.now in let line = c.loop-line.line in
    let range = c.loop-line.range in let more = c.joined-range-in-loop-line.result in
    let here = line_placed _ _ line _ c.slews.ensures.value c.on_line.ensures in
    box_goes_on t c.requires.table slews.from slews.to loads.from loads.to c.requires.slews.ordered c.requires.loads.ordered slews.first slews.last line _ _ range.0 range.1 more.0 more.1
    c.requires.slews.first c.requires.slews.last c.loop-line.auto.line c.loop-line-test.true
    (c.row_range.ensures.least ∙ ap (λ s. row_least t s loads.from loads.to) here)
    (c.row_range.ensures.greatest ∙ ap (λ s. row_greatest t s loads.from loads.to) here)
    c.joined-range-in-loop-line.ensures.least c.joined-range-in-loop-line.ensures.greatest c.loop-line.invariant

both : (c : goal.After-loop-line) → (c.loop-line.range.0 ≡ least_over (table_value c.args.table.now) (box_of c.args.slews.now c.args.loads.now))
    × (c.loop-line.range.1 ≡ greatest_over (table_value c.args.table.now) (box_of c.args.slews.now c.args.loads.now))
both c =
    let slews = c.args.slews.now in let loads = c.args.loads.now in let range = c.loop-line.range in
    box_done c.args.table.now c.requires.table slews.from slews.to loads.from loads.to c.requires.slews.ordered c.requires.loads.ordered slews.first slews.last c.loop-line.line range.0 range.1
    c.requires.slews.first c.requires.slews.last c.loop-line-test.false c.loop-line.invariant

pub returns-clause-least : goal.returns-clause-least
returns-clause-least c = (both c).0

pub returns-clause-greatest : goal.returns-clause-greatest
returns-clause-greatest c = (both c).1

pub returns-clause-least_number : goal.returns-clause-least_number
returns-clause-least_number c =
    subst IsTableNumber (sym (both c).0)
    (least_number c.args.table.now c.requires.table (box_of c.args.slews.now c.args.loads.now) (record { slews = c.requires.slews.ordered; loads = c.requires.loads.ordered }))

pub returns-clause-greatest_number : goal.returns-clause-greatest_number
returns-clause-greatest_number c =
    subst IsTableNumber (sym (both c).1)
    (greatest_number c.args.table.now c.requires.table (box_of c.args.slews.now c.args.loads.now) (record { slews = c.requires.slews.ordered; loads = c.requires.loads.ordered }))
