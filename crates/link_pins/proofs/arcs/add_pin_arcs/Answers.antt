use Rattle.std.proofs.Common.{◌≡◌, ◌++◌, ◌∙◌, Vec, Global, sym, ap}
use Rattle.std.specs.Prelude.{Option, flat_map, option_map}
use Rattle.std.proofs.lemmas.List.{append-nil, take_all}
use Rattle.xt_model.specs.declared.net.TimingArc.{TimingArc}
use Rattle.link_rules.specs.Arcs.{arcs_from}
use Rattle.link_pins.specs.declared.arcs.SinkAt.{SinkAt}
use Rattle.link_pins.specs.Places.{place_of}
use Rattle.link_pins.specs.Related.{arcs_of}
use Rattle.link_pins.proofs.TimingLaws.{flat_more}
use Rattle.link_pins.proofs.arcs.add_pin_arcs.Goals as goal
use Rattle.link_pins.proofs.arcs.add_pin_arcs.Goals.{in-Some+in_ok-add_arcs, in_default}

pub loop-one-init : goal.loop-one-init
loop-one-init c = sym (append-nil c.args.arcs.now.items)

pub loop-one-preserved : goal.loop-one-preserved
loop-one-preserved c =
    let at = c.args.places.now.at.items in
    let r = c.one-item.result in
    let cur = c.loop-one.arcs.items in
    let step : c.match-sink.arcs.items ≡ cur ++ arcs_of at r = elim c.match-sink.branch [
      | in-Some+in_ok-add_arcs w ↦
          ap (λ (v : Vec TimingArc Global). v.items) w.arcs-is
          ∙ (w.in_ok-add_arcs.ensures ∙ ap (λ (o : Option SinkAt). cur ++ arcs_from r.timing.now (option_map place_of o)) (sym w.in-Some.is ∙ c.sink.ensures))
      | in_default w ↦
          ap (λ (v : Vec TimingArc Global). v.items) w.arcs-is
          ∙ (sym (append-nil cur) ∙ ap (λ (o : Option SinkAt). cur ++ arcs_from r.timing.now (option_map place_of o)) (sym w.in_default.is ∙ c.sink.ensures))
    ] in
    flat_more (arcs_of at) c.args.related.now c.loop-one.one-index r c.args.arcs.now.items cur c.match-sink.arcs.items c.loop-one-test.true c.loop-one.invariant
    (step ∙ ap (λ x. cur ++ arcs_of at x) c.one-item.is)

pub returns : goal.returns
returns c =
    c.loop-one.invariant
    ∙ ap (λ l. c.args.arcs.now.items ++ flat_map (arcs_of c.args.places.now.at.items) l) (take_all c.loop-one.one-index c.args.related.now c.loop-one-test.false)
