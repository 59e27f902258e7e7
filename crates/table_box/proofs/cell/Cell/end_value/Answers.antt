use Rattle.std.proofs.Common.{◌∙◌, ap, to_z-of_z}
use Rattle.xt_meaning.specs.Lookup.{span_of, value_in}
use Rattle.table_box.specs.Spans.{span_in}
use Rattle.table_box.proofs.Places.{number_word}
use Rattle.table_box.proofs.cell.Cell.end_value.Goals as goal

pub returns-then-loads-clause-value : goal.returns-then-loads-clause-value
returns-then-loads-clause-value c =
    let t = c.args.self.now.table.now in
    to_z-of_z c.ranges.start ∙ (c.requires.start ∙ ap (λ x. value_in t (span_in c.args.slew.now) (span_of t.loads x)) (c.requires.loads.single c.if-loads.true))

pub returns-clause-value : goal.returns-clause-value
returns-clause-value c =
    let t = c.args.self.now.table.now in
    to_z-of_z (number_word _ c.value.ensures.number) ∙ (c.value.ensures.value ∙ ap (value_in t (span_in c.args.slew.now)) c.requires.loads.end)
