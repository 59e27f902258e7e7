use Rattle.std.proofs.Common.{refl, sym, subst, length, ℕ, ℤ}
use Rattle.std.specs.Prelude.{IfSome}
use Rattle.std.specs.List.{slice_get}
use Rattle.miller_bits.specs.Victims.{VictimEdge}
use Rattle.miller_bits.proofs.Sums.{found, held}
use Rattle.envelope.specs.Firsts.{AreHighest}
use Rattle.envelope.specs.Greatest.{AreWiresToSinksAtMost}
use Rattle.envelope.proofs.Firsts.{wire_kept}
use Rattle.envelope.proofs.greatest.greatest_of_net.Goals as goal

pub greatest_of_sinks-requires-clause-highest : goal.greatest_of_sinks-requires-clause-highest
greatest_of_sinks-requires-clause-highest c = subst AreHighest (sym (found _ _ c.net.result.now c.net.ensures.there c.new-victim.ensures)) refl

pub returns : goal.returns
returns c =
    let d = c.args.design.now in
    let n = c.net.result.now in
    let o = slice_get d.nets c.args.net.0 in
    let r = c.greatest_of_sinks.result in
    let h = c.greatest_of_sinks.ensures in
    let P : ℕ → Type 0 = λ sinks. AreWiresToSinksAtMost c.new-victim.result.miller c.new-victim.result.net sinks r in
    let Q : VictimEdge → Type 0 = λ v. AreWiresToSinksAtMost v.miller v.net (length n.sinks) r in
    let R : ℤ → Type 0 = λ greatest. IfSome o (λ net. AreWiresToSinksAtMost d.miller net (length net.sinks) greatest) in
    let victim = found _ o n c.net.ensures.there c.new-victim.ensures in
    subst R (sym (wire_kept r h.delay.low h.delay.high))
    (held (λ net. AreWiresToSinksAtMost d.miller net (length net.sinks) r) o n c.net.ensures.there (subst Q victim (subst P c.len-sinks.ensures h)))
