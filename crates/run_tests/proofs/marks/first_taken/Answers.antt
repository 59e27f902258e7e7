use Rattle.std.proofs.Common.{◌≡◌, ap, ◌∙◌}
use Rattle.dirty_words.specs.Views.{Run}
use Rattle.run_tests.proofs.FirstTaken.{can_take}
use Rattle.run_tests.proofs.marks.first_taken.Goals as goal

pub take-requires-clause-take : goal.take-requires-clause-take
take-requires-clause-take c =
    let v = c.args.pass.now.view in
    let d = c.args.design.now in
    let own : v.base.setting.design ≡ d = ap (λ (r : Run). r.setting.design) c.requires.own.run ∙ c.requires.design in
    can_take d v c.draw-number.new.pass.view c.order-order.result.now c.draw-number.result c.order-order.ensures.value c.if-place-order.true own c.requires.free c.requires.none c.draw-number.ensures.drew.after
