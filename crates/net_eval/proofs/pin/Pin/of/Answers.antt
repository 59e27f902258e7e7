-- Both victims are edges of one net, whose wire to the sink they give.
use Rattle.std.proofs.Common.{◌≡◌, ◌∙◌, arith, of_z, refl, to_z}
use Rattle.std.specs.Int.{w128}
use Rattle.std.proofs.lemmas.Int.{ints}
use Rattle.xt_model.specs.declared.edge.Edge.TheVariants.{Rise, Fall}
use Rattle.net_eval.specs.Scenes.{scene_of}
use Rattle.net_eval.proofs.Nets.{pin_edge, pin_of, same_net, sink_there}
use Rattle.net_eval.proofs.Steady.{has_sink}
use Rattle.net_eval.proofs.pin.Pin.of.Goals as goal

pub wire_ranges-requires-clause-net : goal.wire_ranges-requires-clause-net
wire_ranges-requires-clause-net g c =
    same_net c.args.overlaps c.args.design.now (g.V.Bounds.bound_of c.args.view.now) c.args.net.0 Rise Fall _ _ c.args.sink c.requires.sink c.new-rise.ensures c.new-fall.ensures

pub wire_ranges-requires-clause-sink : goal.wire_ranges-requires-clause-sink
wire_ranges-requires-clause-sink g c =
    sink_there c.args.overlaps c.args.design.now (g.V.Bounds.bound_of c.args.view.now) c.args.net.0 Rise _ c.args.sink c.requires.sink c.new-rise.ensures

pub returns-clause-pin : goal.returns-clause-pin
returns-clause-pin g c =
    let d = c.args.design.now in let f = g.V.Bounds.bound_of c.args.view.now in let n = c.args.net.0 in let w = c.wire_ranges.ensures in let x = c.wire_ranges.result in
    let a_least : to_z w128 (of_z w128 x.0.0) ≡ x.0.0 = omega (arith, ints, c.wire_ranges.type_inv) in
    let a_greatest : to_z w128 (of_z w128 x.0.1) ≡ x.0.1 = omega (arith, ints, c.wire_ranges.type_inv) in
    let b_least : to_z w128 (of_z w128 x.1.0) ≡ x.1.0 = omega (arith, ints, c.wire_ranges.type_inv) in
    let b_greatest : to_z w128 (of_z w128 x.1.1) ≡ x.1.1 = omega (arith, ints, c.wire_ranges.type_inv) in
    pin_of (scene_of c.args.overlaps d f) n c.args.sink _ refl refl
    (pin_edge c.args.overlaps d f n Rise c.new-rise.result c.args.sink _ c.requires.sink c.new-rise.ensures c.window.ensures.value (a_least ∙ w.a_least) (a_greatest ∙ w.a_greatest))
    (pin_edge c.args.overlaps d f n Fall c.new-fall.result c.args.sink _ c.requires.sink c.new-fall.ensures c.window-2.ensures.value (b_least ∙ w.b_least) (b_greatest ∙ w.b_greatest))

pub new-rise-requires-clause-words : goal.new-rise-requires-clause-words
new-rise-requires-clause-words g c = c.requires.words Rise

pub new-fall-requires-clause-net : goal.new-fall-requires-clause-net
new-fall-requires-clause-net g c = has_sink c.args.design.now c.args.net.0 c.args.sink _ refl c.requires.sink

pub new-fall-requires-clause-words : goal.new-fall-requires-clause-words
new-fall-requires-clause-words g c = c.requires.words Fall
