use Rattle.std.proofs.Common.{rules, w64}
use Rattle.std.proofs.lemmas.Int.{to_z-of_z}
use mir.Val.{SFits}
use Rattle.xt_model.specs.Assign.{assigned}
use Rattle.xt_meaning.specs.Operator.{Range}
use Rattle.aggressor_report.proofs.Spent.{kept_slew, slews_ordered, delays_are, passage_is, table_there}
use Rattle.aggressor_report.proofs.passage.passage_through.Goals as goal

pub range-delays-requires-clause-slews : goal.range-delays-requires-clause-slews
range-delays-requires-clause-slews c = slews_ordered c.in_ok-input.input.window c.in_ok-input.ensures.limits

pub returns : goal.returns
returns c =
    let d = c.args.design.now in
    let a = c.args.arc.now in
    let input = c.in_ok-input.input in
    let load : Range = record { least = c.args.load.0; most = c.args.load.1 } in
    let delays : Range = record { least = c.range-delays.result.0; most = c.range-delays.result.1 } in
    let limits = c.in_ok-input.ensures.limits in
    let least : SFits w64 c.args.load.0 = search rules in
    let most : SFits w64 c.args.load.1 = search rules in
    passage_is c.args.late d (assigned c.args.windows.now) load a input delays c.spent.result c.in_ok-input.ensures.value
    (delays_are d a c.index-tables-arc.result input.window load _ _ _ _ _ _
    (table_there d.tables c.tables.result.now a.delay c.index-tables-arc.result c.tables.ensures.value c.requires.sound.delay c.index-tables-arc.is)
    (kept_slew input.window.slo limits.slo) (kept_slew input.window.shi limits.shi)
    (to_z-of_z w64 c.args.load.0 least) (to_z-of_z w64 c.args.load.1 most) c.range-delays.ensures.least c.range-delays.ensures.greatest)
    c.spent.ensures
