use Rattle.std.proofs.Common.{◌∙◌, ap, to_z-of_z}
use Rattle.xt_meaning.specs.Lookup.{span_of, value_in}
use Rattle.table_box.specs.Spans.{span_in}
use Rattle.table_box.proofs.Places.{number_word, placed_sound}
use Rattle.table_box.proofs.ranges.end_value.Goals as goal

pub returns-then-loads-clause-value : goal.returns-then-loads-clause-value
returns-then-loads-clause-value c =
    let t = c.args.table.now in
    to_z-of_z c.ranges.start ∙ (c.requires.start ∙ ap (λ x. value_in t (span_in c.args.slew.now) (span_of t.loads x)) (c.requires.loads.single c.if-loads.true))

pub value_at-requires-clause-load : goal.value_at-requires-clause-load
value_at-requires-clause-load c = placed_sound _ _ _ c.requires.table.loads c.requires.loads.end

pub returns-clause-value : goal.returns-clause-value
returns-clause-value c =
    let t = c.args.table.now in
    to_z-of_z (number_word _ c.value_at.ensures.number) ∙ (c.value_at.ensures.value ∙ ap (value_in t (span_in c.args.slew.now)) c.requires.loads.end)
