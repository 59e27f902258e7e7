use Rattle.std.proofs.Common.{◌≡◌, ◌+◌, ◌∙◌, cond, is_some, sym, ap, arith}
use Rattle.std.proofs.lemmas.List.{take_all}
use Rattle.link_pins.specs.Places.{is_sink}
use Rattle.link_pins.specs.Related.{counted}
use Rattle.link_pins.proofs.IndexLaws.{counted_next}
use Rattle.link_pins.proofs.found.count_by_pins.Goals as goal
use Rattle.link_pins.proofs.found.count_by_pins.Goals.{then-is_some+in_ok-count, else-is_some}

pub loop-one-preserved : goal.loop-one-preserved
loop-one-preserved c =
    let g = is_sink c.args.places.now.at.items in
    let u = c.one-item.result in
    let cur = c.loop-one.count in
    let test : is_some c.sink.result ≡ g u.pin = ap is_some c.sink.ensures in
    let step : c.if-is_some.count ≡ cur + cond (g u.pin) u.count 0 = elim c.if-is_some.branch [
      | then-is_some+in_ok-count w ↦
          omega (arith, w.count-is, w.in_ok-count.ensures, w.from.ensures, ap (λ b. cond b u.count 0) (sym test ∙ (sym c.is_some.ensures ∙ w.if-is_some.true)))
      | else-is_some w ↦
          omega (arith, w.count-is, ap (λ b. cond b u.count 0) (sym test ∙ (sym c.is_some.ensures ∙ w.if-is_some.false)))
    ] in
    counted_next g c.args.counts.now c.loop-one.one-index cur c.if-is_some.count u c.loop-one-test.true c.one-item.is c.loop-one.invariant step

pub returns : goal.returns
returns c =
    c.loop-one.invariant
    ∙ ap (counted (is_sink c.args.places.now.at.items)) (take_all c.loop-one.one-index c.args.counts.now c.loop-one-test.false)
