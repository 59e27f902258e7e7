-- Both places are those of the definition.
use Rattle.std.proofs.Common.{◌∙◌, ap, to_z-of_z}
use Rattle.xt_meaning.specs.Lookup.{span_of, table_value, value_in}
use Rattle.table_box.specs.Spans.{span_in}
use Rattle.table_box.proofs.Places.{number_word, placed, placed_sound}
use Rattle.table_box.proofs.values.at.Goals as goal

pub value_at-requires-clause-slew : goal.value_at-requires-clause-slew
value_at-requires-clause-slew c =
    placed_sound c.args.table.now.slews c.args.slew (span_in c.of-at_slew.result) c.slews.ensures.sound.slews
    (placed _ _ c.args.slew _ c.slews.ensures.value c.ranges.slew c.of-at_slew.ensures)

pub value_at-requires-clause-load : goal.value_at-requires-clause-load
value_at-requires-clause-load c =
    placed_sound c.args.table.now.loads c.args.load (span_in c.of-at_load.result) c.loads.ensures.sound.loads
    (placed _ _ c.args.load _ c.loads.ensures.value c.ranges.load c.of-at_load.ensures)

pub returns-clause-value : goal.returns-clause-value
unfolding table_value
returns-clause-value c =
    let t = c.args.table.now in
    let slew = placed _ _ c.args.slew _ c.slews.ensures.value c.ranges.slew c.of-at_slew.ensures in
    let load = placed _ _ c.args.load _ c.loads.ensures.value c.ranges.load c.of-at_load.ensures in
    to_z-of_z (number_word _ c.value_at.ensures.number)
    ∙ (c.value_at.ensures.value ∙ (ap (λ p. value_in t p (span_in c.of-at_load.result)) slew ∙ ap (value_in t (span_of t.slews c.args.slew)) load))
