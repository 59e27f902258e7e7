use Rattle.std.proofs.Common.{◌≡◌, ◌++◌, ◌∷◌, [], ◌∙◌, Vec, Global, cond, is_some, map, sym, ap, arith}
use Rattle.std.specs.Prelude.{filter}
use Rattle.std.proofs.lemmas.List.{append-nil, take_all}
use Rattle.link_pins.specs.declared.related.RelatedPin.{RelatedPin}
use Rattle.link_pins.specs.Places.{is_sink}
use Rattle.link_pins.specs.Related.{related_of, is_sink_at}
use Rattle.link_pins.proofs.IndexLaws.{sinks_next}
use Rattle.link_pins.proofs.found.sinks_among.Goals as goal
use Rattle.link_pins.proofs.found.sinks_among.Goals.{then-is_some+in_ok-push, else-is_some}

pub loop-place-init : goal.loop-place-init
loop-place-init c = ap (map related_of) c.in_ok-sinks.ensures.items

pub loop-place-preserved : goal.loop-place-preserved
loop-place-preserved c =
    let at = c.args.places.now.at.items in
    let r = c.get-one.result in
    let cur = c.loop-place.sinks.items in
    let test : is_some c.sink.result ≡ is_sink at r.pin = ap is_some c.sink.ensures in
    let step : c.if-is_some.sinks.items ≡ cur ++ cond (is_sink at r.pin) (r ∷ []) [] = elim c.if-is_some.branch [
      | then-is_some+in_ok-push w ↦
          ap (λ (v : Vec RelatedPin Global). v.items) w.sinks-is
          ∙ (w.in_ok-push.ensures.items ∙ ap (λ b. cur ++ cond b (r ∷ []) []) (sym (sym test ∙ (sym c.is_some.ensures ∙ w.if-is_some.true))))
      | else-is_some w ↦
          ap (λ (v : Vec RelatedPin Global). v.items) w.sinks-is
          ∙ (sym (append-nil cur) ∙ ap (λ b. cur ++ cond b (r ∷ []) []) (sym (sym test ∙ (sym c.is_some.ensures ∙ w.if-is_some.false))))
    ] in
    sinks_next at c.args.related.now.items c.loop-place.place r cur c.if-is_some.sinks.items c.get-one.ensures c.loop-place.invariant step

pub returns : goal.returns
returns c =
    c.loop-place.invariant
    ∙ ap (filter (is_sink_at c.args.places.now.at.items)) (take_all c.loop-place.place c.args.related.now.items (omega (arith, c.loop-place-test.false, c.len-place-end.ensures)))
