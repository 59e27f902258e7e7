use Rattle.std.proofs.Common.{◌≡◌, ◌∙◌, sym, subst, ◌++◌, ℤ}
use Rattle.std.specs.Prelude.{None}
use Rattle.xt_model.specs.declared.quad.Quad.{Quad}
use Rattle.xt_model.specs.Quads.{IsInRange}
use Rattle.xt_meaning.specs.Envelope.{first_over}
use Rattle.miller_bits.proofs.Sums.{found}
use Rattle.envelope.specs.Firsts.{driver_tests, wire_tests}
use Rattle.envelope.specs.Greatest.{AreWiresAtMost}
use Rattle.envelope.proofs.Firsts.{wire_kept, none_passed}
use Rattle.envelope.proofs.Wider.{join_in_range, pair_keeps_behind}
use Rattle.envelope.proofs.limits.test_pair_by.Goals as goal

pub test_with_wire-requires-clause-range : goal.test_with_wire-requires-clause-range
test_with_wire-requires-clause-range c = subst IsInRange (sym c.join-both.ensures) (join_in_range c.args.pair.now c.requires.range)

pub returns-then-is_ok : goal.returns-then-is_ok
returns-then-is_ok c =
    let d = c.args.design.now in
    let n = c.args.net.0 in
    let wire = c.in-Some.wire in
    let both = c.join-both.result in
    let greatest = found (AreWiresAtMost d) c.args.greatest wire c.in-Some.is c.requires.greatest in
    let P : ℤ → Type 0 = λ w. None ≡ first_over (driver_tests n both ++ wire_tests n both w) in
    let Q : Quad → Type 0 = λ q. None ≡ first_over (driver_tests n q ++ wire_tests n q wire) in
    pair_keeps_behind d n c.args.pair.now wire c.requires.sound c.requires.net greatest
    (subst Q c.join-both.ensures (subst P (wire_kept wire greatest.delay.low greatest.delay.high)
    (none_passed c.test_with_wire.result _ (sym c.if-is_ok.true ∙ c.is_ok.ensures.value) c.test_with_wire.ensures)))
