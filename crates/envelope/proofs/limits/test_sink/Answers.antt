use Rattle.std.proofs.Common.{◌≡◌, ◌∙◌, ap, subst, ℤ}
use Rattle.xt_meaning.specs.Wires.{wire_delay}
use Rattle.xt_meaning.specs.Envelope.{first_over}
use Rattle.envelope.specs.Firsts.{passed_test, wire_tests}
use Rattle.envelope.proofs.Firsts.{wire_kept}
use Rattle.envelope.proofs.limits.test_sink.Goals as goal

pub returns : goal.returns
returns c =
    let v = c.args.victim.now in
    let w = c.wire_range-wire.ensures in
    let P : ℤ → Type 0 = λ wire. passed_test c.test_wire.result ≡ first_over (wire_tests v.number c.args.quad.now wire) in
    subst P (wire_kept c.wire_range-wire.result.1 w.greatest_natural w.greatest_small ∙ (w.greatest ∙ ap (λ ms. wire_delay ms v.net c.args.sink) c.requires.highest))
    (rw c.number.ensures at c.test_wire.ensures)
