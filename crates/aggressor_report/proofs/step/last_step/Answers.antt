use Rattle.std.proofs.Common.{◌∙◌, rules, arith, w64}
use Rattle.std.proofs.lemmas.Int.{to_z-of_z}
use Rattle.std.proofs.lemmas.List.Elements.{All-same}
use mir.Val.{SFits}
use Rattle.xt_model.specs.Assign.{assigned}
use Rattle.xt_model.specs.Sound.{IsSoundArc}
use Rattle.xt_meaning.specs.Operator.{Range}
use Rattle.aggressor_report.proofs.Backs.{arc_number_fits, step_found, none_more, none_given, missed_here}
use Rattle.aggressor_report.proofs.step.last_step.Goals as goal

pub loop-number-init : goal.loop-number-init
loop-number-init c = λ net i b there less arc_at. absurd (omega arith)

pub passage_to-requires-clause-sound : goal.passage_to-requires-clause-sound
passage_to-requires-clause-sound c =
    let d = c.args.design.now in
    All-same (IsSoundArc d) c.as_slice-arc-items.result.now c.net-driven.result.now.arcs c.as_slice-arc-items.ensures c.net-driven.ensures.sound.arcs c.loop-number.number _ c.loop-number-test.true

pub overflow_cast-result : goal.overflow_cast-result
overflow_cast-result c =
    arc_number_fits c.args.design.now c.args.net.0 c.net-driven.result.now c.as_slice-arc-items.result.now c.loop-number.number c.net-driven.ensures.whole c.net-driven.ensures.there
    c.as_slice-arc-items.ensures c.loop-number-test.true

pub returns-in-Some-clause-step : goal.returns-in-Some-clause-step
returns-in-Some-clause-step c =
    let p = c.in-Some.passage in
    let loads : Range = record { least = c.loads-load.result.0; most = c.loads-load.result.1 } in
    let wire : SFits w64 p.wire = search rules in
    let delay : SFits w64 p.delay = search rules in
    let bound : SFits w64 c.bound_at-bound.result = search rules in
    step_found c.args.late c.args.design.now (assigned c.args.windows.now) c.args.net c.args.edge c.loop-number.number c.as_slice-arc-items.result.now c.net-driven.result.now _ loads _ p _ _
    c.net-driven.ensures.there c.as_slice-arc-items.ensures c.loop-number-test.true c.loads-load.ensures.value (to_z-of_z w64 c.bound_at-bound.result bound ∙ c.bound_at-bound.ensures)
    c.in-Some.ensures c.loop-number.invariant (to_z-of_z w64 p.wire wire) (to_z-of_z w64 p.delay delay)

pub loop-number-preserved : goal.loop-number-preserved
loop-number-preserved c =
    let late = c.args.late in
    let d = c.args.design.now in
    let W = assigned c.args.windows.now in
    let arcs = c.as_slice-arc-items.result.now in
    let loads : Range = record { least = c.loads-load.result.0; most = c.loads-load.result.1 } in
    let bound : SFits w64 c.bound_at-bound.result = search rules in
    none_more late d W c.args.net.0 c.args.edge c.loop-number.number arcs c.loop-number.invariant
    (missed_here late d W c.args.net.0 c.args.edge c.loop-number.number arcs c.net-driven.result.now _ loads _ c.net-driven.ensures.there c.as_slice-arc-items.ensures c.loop-number-test.true
    c.loads-load.ensures.value (to_z-of_z w64 c.bound_at-bound.result bound ∙ c.bound_at-bound.ensures) c.in_default.ensures)

pub unreachable-requires : goal.unreachable-requires
unreachable-requires c =
    none_given c.args.late c.args.design.now (assigned c.args.windows.now) c.args.net.0 c.args.edge c.loop-number.number c.as_slice-arc-items.result.now c.net-driven.result.now
    c.net-driven.ensures.there c.as_slice-arc-items.ensures c.loop-number-test.false c.requires.given c.loop-number.invariant
