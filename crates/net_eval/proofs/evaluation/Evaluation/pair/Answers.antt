-- Each turn joins what one arc contributes to both edges.
use Rattle.std.proofs.Common.{◌≡◌, ◌<◌, ◌∙◌, ap, refl, length, arith}
use Rattle.std.proofs.lemmas.Option.{slice_get_within}
use Rattle.xt_model.specs.declared.edge.Edge.TheVariants.{Rise, Fall}
use Rattle.xt_meaning.specs.Wires.{load_of}
use Rattle.xt_meaning.proofs.Starts.{bottom_in_range}
use Rattle.miller_bits.specs.Victims.{victim_of}
use Rattle.miller_bits.proofs.Sums.{found}
use Rattle.net_eval.specs.Arcs.{load_in}
use Rattle.net_eval.specs.Scenes.{scene_of}
use Rattle.net_eval.proofs.Contributions.{join_is, loads_of_victim}
use Rattle.net_eval.proofs.Nets.{source_is, source_in_range, own_words, edge_at, ready_at, input_fits, arc_turn, operator_is, pair_is}
use Rattle.net_eval.proofs.evaluation.Evaluation.pair.Goals as goal

pub returns-then-len-eq0-clause-value : goal.returns-then-len-eq0-clause-value
returns-then-len-eq0-clause-value g c =
    let e = c.self.inside in
    let s = scene_of e.overlaps e.design.now (g.V.Bounds.bound_of e.view.now) in
    let none : length e.net.now.arcs ≡ 0 = omega (arith, c.if-len-eq0.true, c.len.ensures) in
    rw (← c.self.view_is)
    (pair_is s e.number.0 _
    (source_is s e.number.0 Rise e.net.now _ c.self.invariant.there none c.at.ensures)
    (source_is s e.number.0 Fall e.net.now _ c.self.invariant.there none c.at-then-len-eq0.ensures))

pub returns-then-len-eq0-clause-range : goal.returns-then-len-eq0-clause-range
returns-then-len-eq0-clause-range g c =
    let e = c.self.inside in let sound = c.self.invariant.sound in
    record {
      rise = rw c.at.ensures (source_in_range e.design.now e.number.0 e.net.now Rise sound);
      fall = rw c.at-then-len-eq0.ensures (source_in_range e.design.now e.number.0 e.net.now Fall sound);
    }

pub load_ranges-requires : goal.load_ranges-requires
load_ranges-requires g c =
    let e = c.self.inside in let f = g.V.Bounds.bound_of e.view.now in
    let r : c.new-own_rise.result ≡ victim_of e.overlaps e.design.now f e.number.0 Rise e.net.now = found _ _ e.net.now c.self.invariant.there c.new-own_rise.ensures in
    let u : c.new-own_fall.result ≡ victim_of e.overlaps e.design.now f e.number.0 Fall e.net.now = found _ _ e.net.now c.self.invariant.there c.new-own_fall.ensures in
    record { net = rw (r, u) refl }

pub with_arc-rise-requires-clause-fits : goal.with_arc-rise-requires-clause-fits
with_arc-rise-requires-clause-fits g c =
    let e = c.self.inside in let s = scene_of e.overlaps e.design.now (g.V.Bounds.bound_of e.view.now) in
    input_fits _ s _ c.at-input.result (ready_at _ s _ _ c.loop-arc.arc-index _ c.self.invariant.arcs c.as_slice-arc-items.ensures c.loop-arc-test.true)
    (edge_at s _ _ _ _ c.move_to.ensures c.at-input.ensures)

pub with_arc-fall-requires-clause-fits : goal.with_arc-fall-requires-clause-fits
with_arc-fall-requires-clause-fits g c =
    let e = c.self.inside in let s = scene_of e.overlaps e.design.now (g.V.Bounds.bound_of e.view.now) in
    input_fits _ s _ c.at-input.result (ready_at _ s _ _ c.loop-arc.arc-index _ c.self.invariant.arcs c.as_slice-arc-items.ensures c.loop-arc-test.true)
    (edge_at s _ _ _ _ c.move_to.ensures c.at-input.ensures)

pub of_arc-rise_tables-requires-clause-load : goal.of_arc-rise_tables-requires-clause-load
of_arc-rise_tables-requires-clause-load g c =
    let e = c.self.inside in let f = g.V.Bounds.bound_of e.view.now in
    let v : c.new-own_rise.result ≡ victim_of e.overlaps e.design.now f e.number.0 Rise e.net.now = found _ _ e.net.now c.self.invariant.there c.new-own_rise.ensures in
    loads_of_victim e.design.now e.number.0 e.net.now e.overlaps f Rise _ _ _ c.self.invariant.miller c.self.invariant.sound v c.load_ranges.ensures.a_least c.load_ranges.ensures.a_greatest

pub of_arc-rise_tables-requires-clause-sound : goal.of_arc-rise_tables-requires-clause-sound
of_arc-rise_tables-requires-clause-sound g c =
    let e = c.self.inside in let s = scene_of e.overlaps e.design.now (g.V.Bounds.bound_of e.view.now) in
    (ready_at _ s _ _ c.place_to-to_rise.result _ c.self.invariant.arcs c.as_slice-arcs.ensures c.place_to-to_rise.ensures).sound

pub with_arc-rise-requires-clause-load : goal.with_arc-rise-requires-clause-load
with_arc-rise-requires-clause-load g c =
    let e = c.self.inside in let f = g.V.Bounds.bound_of e.view.now in
    let v : c.new-own_rise.result ≡ victim_of e.overlaps e.design.now f e.number.0 Rise e.net.now = found _ _ e.net.now c.self.invariant.there c.new-own_rise.ensures in
    loads_of_victim e.design.now e.number.0 e.net.now e.overlaps f Rise _ _ _ c.self.invariant.miller c.self.invariant.sound v c.load_ranges.ensures.a_least c.load_ranges.ensures.a_greatest

pub of_arc-fall_tables-requires-clause-load : goal.of_arc-fall_tables-requires-clause-load
of_arc-fall_tables-requires-clause-load g c =
    let e = c.self.inside in let f = g.V.Bounds.bound_of e.view.now in
    let v : c.new-own_fall.result ≡ victim_of e.overlaps e.design.now f e.number.0 Fall e.net.now = found _ _ e.net.now c.self.invariant.there c.new-own_fall.ensures in
    loads_of_victim e.design.now e.number.0 e.net.now e.overlaps f Fall _ _ _ c.self.invariant.miller c.self.invariant.sound v c.load_ranges.ensures.b_least c.load_ranges.ensures.b_greatest

pub of_arc-fall_tables-requires-clause-sound : goal.of_arc-fall_tables-requires-clause-sound
of_arc-fall_tables-requires-clause-sound g c =
    let e = c.self.inside in let s = scene_of e.overlaps e.design.now (g.V.Bounds.bound_of e.view.now) in
    (ready_at _ s _ _ c.place_to-to_fall.result _ c.self.invariant.arcs c.as_slice-arcs.ensures c.place_to-to_fall.ensures).sound

pub with_arc-fall-requires-clause-load : goal.with_arc-fall-requires-clause-load
with_arc-fall-requires-clause-load g c =
    let e = c.self.inside in let f = g.V.Bounds.bound_of e.view.now in
    let v : c.new-own_fall.result ≡ victim_of e.overlaps e.design.now f e.number.0 Fall e.net.now = found _ _ e.net.now c.self.invariant.there c.new-own_fall.ensures in
    loads_of_victim e.design.now e.number.0 e.net.now e.overlaps f Fall _ _ _ c.self.invariant.miller c.self.invariant.sound v c.load_ranges.ensures.b_least c.load_ranges.ensures.b_greatest

pub loop-arc-preserved : goal.loop-arc-preserved
loop-arc-preserved g c =
    let e = c.self.inside in let s = scene_of e.overlaps e.design.now (g.V.Bounds.bound_of e.view.now) in
    record {
      pin = c.move_to.ensures.pin;
      rise_tables = c.with_arc-rise.ensures.tables;
      fall_tables = c.with_arc-fall.ensures.tables;
      rise = arc_turn s Rise _ _ c.loop-arc.arc-index _ c.loop-arc.rise _ c.at-input.result c.loop-arc-test.true (edge_at s _ _ _ _ c.move_to.ensures c.at-input.ensures) c.with_arc-rise.ensures.value c.loop-arc.invariant.rise;
      fall = arc_turn s Fall _ _ c.loop-arc.arc-index _ c.loop-arc.fall _ c.at-input.result c.loop-arc-test.true (edge_at s _ _ _ _ c.move_to.ensures c.at-input.ensures) c.with_arc-fall.ensures.value c.loop-arc.invariant.fall;
      rise_range = c.with_arc-rise.ensures.range;
      fall_range = c.with_arc-fall.ensures.range;
    }

pub returns-clause-value : goal.returns-clause-value
returns-clause-value g c =
    let e = c.self.inside in let f = g.V.Bounds.bound_of e.view.now in
    let s = scene_of e.overlaps e.design.now f in
    let some : 0 < length e.net.now.arcs = omega (arith, c.if-len-eq0.false, c.len.ensures) in
    let loads = c.load_ranges.ensures in
    let rise_is : c.new-own_rise.result ≡ victim_of e.overlaps e.design.now f e.number.0 Rise e.net.now = found _ _ e.net.now c.self.invariant.there c.new-own_rise.ensures in
    let rise = operator_is s e.number.0 Rise e.net.now _ c.self.invariant.there some
    (join_is s Rise (load_in s e.number.0 Rise e.net.now) _ _ _ _ _ _ (loads.a_least ∙ ap (λ v. load_of v.least v.net) rise_is) (loads.a_greatest ∙ ap (λ v. load_of v.greatest v.net) rise_is)
    c.as_slice-arc-items.ensures c.loop-arc-test.false c.loop-arc.invariant.rise) in
    let fall_is : c.new-own_fall.result ≡ victim_of e.overlaps e.design.now f e.number.0 Fall e.net.now = found _ _ e.net.now c.self.invariant.there c.new-own_fall.ensures in
    let fall = operator_is s e.number.0 Fall e.net.now _ c.self.invariant.there some
    (join_is s Fall (load_in s e.number.0 Fall e.net.now) _ _ _ _ _ _ (loads.b_least ∙ ap (λ v. load_of v.least v.net) fall_is) (loads.b_greatest ∙ ap (λ v. load_of v.greatest v.net) fall_is)
    c.as_slice-arc-items.ensures c.loop-arc-test.false c.loop-arc.invariant.fall) in
    rw (← c.self.view_is) (pair_is s e.number.0 _ rise fall)

pub new-own_rise-requires-clause-words : goal.new-own_rise-requires-clause-words
new-own_rise-requires-clause-words g c =
    let e = c.self.inside in
    own_words _ e.design.now e.number.0 Rise e.net.now c.self.invariant.there c.self.invariant.words (omega (arith, c.if-len-eq0.false, c.len.ensures))

pub new-own_fall-requires-clause-words : goal.new-own_fall-requires-clause-words
new-own_fall-requires-clause-words g c =
    let e = c.self.inside in
    own_words _ e.design.now e.number.0 Fall e.net.now c.self.invariant.there c.self.invariant.words (omega (arith, c.if-len-eq0.false, c.len.ensures))

pub new-own_fall-requires-clause-net : goal.new-own_fall-requires-clause-net
new-own_fall-requires-clause-net g c = let e = c.self.inside in slice_get_within e.design.now.nets e.number.0 e.net.now c.self.invariant.there

pub new-own_rise-requires-clause-net : goal.new-own_rise-requires-clause-net
new-own_rise-requires-clause-net g c = let e = c.self.inside in slice_get_within e.design.now.nets e.number.0 e.net.now c.self.invariant.there

pub of-pin-requires-clause-sink : goal.of-pin-requires-clause-sink
of-pin-requires-clause-sink g c =
    let e = c.self.inside in let s = scene_of e.overlaps e.design.now (g.V.Bounds.bound_of e.view.now) in
    let some : 0 < length e.net.now.arcs = omega (arith, c.if-len-eq0.false, c.len.ensures) in
    (ready_at _ s _ _ 0 _ c.self.invariant.arcs c.as_slice-arcs.ensures (rw c.as_slice-arcs.ensures some)).sound.sink

pub of-pin-requires-clause-words : goal.of-pin-requires-clause-words
of-pin-requires-clause-words g c =
    let e = c.self.inside in let s = scene_of e.overlaps e.design.now (g.V.Bounds.bound_of e.view.now) in
    let some : 0 < length e.net.now.arcs = omega (arith, c.if-len-eq0.false, c.len.ensures) in
    (ready_at _ s _ _ 0 _ c.self.invariant.arcs c.as_slice-arcs.ensures (rw c.as_slice-arcs.ensures some)).words

pub place_to-to_rise-requires : goal.place_to-to_rise-requires
place_to-to_rise-requires g c =
    let some : 0 < length c.self.inside.net.now.arcs = omega (arith, c.if-len-eq0.false, c.len.ensures) in rw c.as_slice-arcs.ensures some

pub place_to-to_fall-requires : goal.place_to-to_fall-requires
place_to-to_fall-requires g c =
    let some : 0 < length c.self.inside.net.now.arcs = omega (arith, c.if-len-eq0.false, c.len.ensures) in rw c.as_slice-arcs.ensures some

pub loop-arc-init : goal.loop-arc-init
loop-arc-init g c = record {
  pin = c.of-pin.ensures.pin;
  rise_tables = c.of_arc-rise_tables.ensures.tables;
  fall_tables = c.of_arc-fall_tables.ensures.tables;
  rise = c.bottom-rise.ensures;
  fall = c.bottom-fall.ensures;
  rise_range = rw c.bottom-rise.ensures bottom_in_range;
  fall_range = rw c.bottom-fall.ensures bottom_in_range;
}

pub move_to-requires-clause-pin : goal.move_to-requires-clause-pin
move_to-requires-clause-pin g c = c.loop-arc.invariant.pin

pub move_to-requires-clause-ready : goal.move_to-requires-clause-ready
move_to-requires-clause-ready g c =
    let e = c.self.inside in let s = scene_of e.overlaps e.design.now (g.V.Bounds.bound_of e.view.now) in
    ready_at _ s _ _ c.loop-arc.arc-index _ c.self.invariant.arcs c.as_slice-arc-items.ensures c.loop-arc-test.true

pub with_arc-rise-requires-clause-sound : goal.with_arc-rise-requires-clause-sound
with_arc-rise-requires-clause-sound g c =
    let e = c.self.inside in let s = scene_of e.overlaps e.design.now (g.V.Bounds.bound_of e.view.now) in
    (ready_at _ s _ _ c.loop-arc.arc-index _ c.self.invariant.arcs c.as_slice-arc-items.ensures c.loop-arc-test.true).sound

pub with_arc-fall-requires-clause-sound : goal.with_arc-fall-requires-clause-sound
with_arc-fall-requires-clause-sound g c =
    let e = c.self.inside in let s = scene_of e.overlaps e.design.now (g.V.Bounds.bound_of e.view.now) in
    (ready_at _ s _ _ c.loop-arc.arc-index _ c.self.invariant.arcs c.as_slice-arc-items.ensures c.loop-arc-test.true).sound

pub returns-clause-range : goal.returns-clause-range
returns-clause-range g c = record { rise = c.loop-arc.invariant.rise_range; fall = c.loop-arc.invariant.fall_range }

pub of_arc-rise_tables-requires-clause-groups : goal.of_arc-rise_tables-requires-clause-groups
of_arc-rise_tables-requires-clause-groups g c = c.self.invariant.grouped

pub of_arc-fall_tables-requires-clause-groups : goal.of_arc-fall_tables-requires-clause-groups
of_arc-fall_tables-requires-clause-groups g c = c.self.invariant.grouped
