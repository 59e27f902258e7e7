use Rattle.std.proofs.Common.{◌≡◌, ◌++◌, ◌∷◌, [], ◌∙◌, Vec, Global, ℕ, cond, is_some, get_or, sym, ap}
use Rattle.std.proofs.lemmas.List.{append-nil, take_all}
use Rattle.link_pins.specs.Places.{is_sink}
use Rattle.link_pins.specs.Related.{places_of}
use Rattle.link_pins.proofs.FoundLaws.{place_next}
use Rattle.link_pins.proofs.found.found_by_pins.Goals as goal
use Rattle.link_pins.proofs.found.found_by_pins.Goals.{then-is_some+in_ok-push, else-is_some}

pub loop-at-preserved : goal.loop-at-preserved
loop-at-preserved c =
    let at = c.args.places.now.at.items in
    let pin = get_or c.args.pins.now c.loop-at.at 0 in
    let cur = c.loop-at.found.items in
    let test : is_some c.sink.result ≡ is_sink at pin = ap is_some c.sink.ensures in
    let step : c.if-is_some.found.items ≡ cur ++ cond (is_sink at pin) (c.loop-at.at ∷ []) [] = elim c.if-is_some.branch [
      | then-is_some+in_ok-push w ↦
          ap (λ (v : Vec ℕ Global). v.items) w.found-is
          ∙ (w.in_ok-push.ensures.items ∙ ap (λ b. cur ++ cond b (c.loop-at.at ∷ []) []) (sym (sym test ∙ (sym c.is_some.ensures ∙ w.if-is_some.true))))
      | else-is_some w ↦
          ap (λ (v : Vec ℕ Global). v.items) w.found-is
          ∙ (sym (append-nil cur) ∙ ap (λ b. cur ++ cond b (c.loop-at.at ∷ []) []) (sym (sym test ∙ (sym c.is_some.ensures ∙ w.if-is_some.false))))
    ] in
    place_next (is_sink at) c.args.pins.now c.loop-at.at 0 cur c.if-is_some.found.items c.loop-at-test.true c.loop-at.invariant step

pub bounds-pins-at : goal.bounds-pins-at
bounds-pins-at c = c.loop-at-test.true

pub returns : goal.returns
returns c = c.loop-at.invariant ∙ ap (places_of (is_sink c.args.places.now.at.items) 0) (take_all c.loop-at.at c.args.pins.now c.loop-at-test.false)
