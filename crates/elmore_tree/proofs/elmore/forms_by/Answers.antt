use Rattle.std.proofs.Common.{◌≤◌, ◌∙◌, ap, length, map, get_or, arith}
use Rattle.std.proofs.lemmas.List.{take_all}
use Rattle.elmore_tree.specs.Sums.{sink_sums}
use Rattle.elmore_tree.specs.Walks.{path_of}
use Rattle.elmore_tree.proofs.FormLaws.{map_turn, base_is, sink_there, sink_visited}
use Rattle.elmore_tree.proofs.elmore.forms_by.Goals as goal

pub fill-requires-clause-there : goal.fill-requires-clause-there
fill-requires-clause-there c = sink_there c.args.tree.now c.args.sinks.now c.loop-sink.sink-index c.requires.sound c.requires.sinks c.loop-sink-test.true

pub fill-requires-clause-visited : goal.fill-requires-clause-visited
fill-requires-clause-visited c = sink_visited c.args.tree.now c.args.steps.now c.args.sinks.now c.loop-sink.sink-index c.requires.sinks c.loop-sink-test.true c.requires.reached

pub sink_form-requires-clause-base : goal.sink_form-requires-clause-base
sink_form-requires-clause-base c =
    let sink = get_or c.args.sinks.now c.loop-sink.sink-index 0 in
    c.requires.bases sink (sink_visited c.args.tree.now c.args.steps.now c.args.sinks.now c.loop-sink.sink-index c.requires.sinks c.loop-sink-test.true c.requires.reached)
    ∙ base_is c.args.tree.now c.args.steps.now sink

pub loop-sink-preserved : goal.loop-sink-preserved
loop-sink-preserved c = record {
  forms = map_turn (sink_sums c.args.tree.now (path_of c.args.steps.now)) c.args.sinks.now c.args.tree.now.sinks c.loop-sink.sink-index 0 _ _ _ c.requires.sinks c.loop-sink-test.true c.loop-sink.invariant.forms c.in_ok-push.ensures.items c.in_ok-form.ensures;
  row = c.fill.ensures.count;
}

pub loop-sink-init : goal.loop-sink-init
loop-sink-init c = record { forms = c.in_ok-forms.ensures.items; row = c.requires.row }

pub bounds-sinks-sink-index : goal.bounds-sinks-sink-index
bounds-sinks-sink-index c = c.loop-sink-test.true

pub bounds-bases-sink : goal.bounds-bases-sink
bounds-bases-sink c =
    let there = sink_there c.args.tree.now c.args.sinks.now c.loop-sink.sink-index c.requires.sound c.requires.sinks c.loop-sink-test.true in
    let count = c.requires.count in
    omega (arith, there, count)

pub fill-requires-clause-walk : goal.fill-requires-clause-walk
fill-requires-clause-walk c = c.requires.walk

pub fill-requires-clause-made : goal.fill-requires-clause-made
fill-requires-clause-made c = c.requires.made

pub fill-requires-clause-count : goal.fill-requires-clause-count
fill-requires-clause-count c = c.loop-sink.invariant.row

pub sink_form-requires-clause-walk : goal.sink_form-requires-clause-walk
sink_form-requires-clause-walk c = c.requires.walk

pub sink_form-requires-clause-made : goal.sink_form-requires-clause-made
sink_form-requires-clause-made c = c.requires.made

pub sink_form-requires-clause-row : goal.sink_form-requires-clause-row
sink_form-requires-clause-row c = c.fill.ensures

pub sink_form-requires-clause-reached : goal.sink_form-requires-clause-reached
sink_form-requires-clause-reached c = c.requires.reached

pub returns : goal.returns
returns c =
    let sinks = c.args.tree.now.sinks in
    let past : length sinks ≤ c.loop-sink.sink-index = rw (← c.requires.sinks) c.loop-sink-test.false in
    c.loop-sink.invariant.forms ∙ ap (map (sink_sums c.args.tree.now (path_of c.args.steps.now))) (take_all c.loop-sink.sink-index sinks past)
