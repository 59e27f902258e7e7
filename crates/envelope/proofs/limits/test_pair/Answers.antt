use Rattle.std.proofs.Common.{◌≡◌, refl, sym, subst}
use Rattle.std.specs.Prelude.{None}
use Rattle.std.specs.List.{slice_get}
use Rattle.xt_model.specs.declared.quad.Quad.{Quad}
use Rattle.xt_model.specs.Quads.{IsInRange}
use Rattle.xt_meaning.specs.Envelope.{quad_tests, first_over}
use Rattle.miller_bits.specs.Victims.{VictimEdge}
use Rattle.miller_bits.proofs.Sums.{found}
use Rattle.envelope.specs.Firsts.{AreHighest}
use Rattle.envelope.proofs.Wider.{join_in_range, pair_keeps}
use Rattle.envelope.proofs.limits.test_pair.Goals as goal

pub test_quad-requires-clause-highest : goal.test_quad-requires-clause-highest
test_quad-requires-clause-highest c = subst AreHighest (sym (found _ _ c.net.result.now c.net.ensures.there c.new-victim.ensures)) refl

pub test_quad-requires-clause-range : goal.test_quad-requires-clause-range
test_quad-requires-clause-range c = subst IsInRange (sym c.join-both.ensures) (join_in_range c.args.pair.now c.requires.range)

pub returns-in-Ok : goal.returns-in-Ok
returns-in-Ok c =
    let d = c.args.design.now in
    let n = c.net.result.now in
    let victim = found _ _ n c.net.ensures.there c.new-victim.ensures in
    let P : VictimEdge → Type 0 = λ v. None ≡ first_over (quad_tests v.miller v.number v.net c.join-both.result) in
    let Q : Quad → Type 0 = λ q. None ≡ first_over (quad_tests d.miller c.args.net.0 n q) in
    pair_keeps d c.args.net.0 c.args.net.0 n (slice_get d.nets c.args.net.0) c.args.pair.now c.net.ensures.there c.net.ensures.sound
    (subst Q c.join-both.ensures (subst P victim c.in-Ok.ensures))
