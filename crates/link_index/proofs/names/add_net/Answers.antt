use Rattle.std.proofs.Common.{sym, subst, arith}
use Rattle.link_index.specs.Names.{AreNames}
use Rattle.link_index.proofs.NameLaws.{net_bits_within}
use Rattle.link_index.proofs.PlaceLaws.{not_past}
use Rattle.link_index.proofs.SpelledLaws.{set_spelled, short_at, ok_so}
use Rattle.link_index.proofs.names.add_net.Goals as goal

pub add_bus-requires : goal.add_bus-requires
add_bus-requires c =
    let within = rw c.in-Some-range.is at (net_bits_within c.args.nets.now c.args.number _ (sym c.in-Some.ensures)) in
    record {
      few = omega (arith, within, c.requires.few);
      short = short_at c.args.nets.now c.args.number _ c.requires.short (sym c.in-Some.ensures);
      spelled = c.requires.spelled;
    }

pub returns-in-None-range-clause-spelled : goal.returns-in-None-range-clause-spelled
returns-in-None-range-clause-spelled c =
    let short = short_at c.args.nets.now c.args.number _ c.requires.short (sym c.in-Some.ensures) in
    ok_so c.set.result _ (AreNames c.set.new.self)
    (λ given. subst AreNames (sym given) (set_spelled c.in-Some.name.now c.args.names.now short.name c.requires.spelled)) c.set.ensures.given

pub returns-in-None : goal.returns-in-None
returns-in-None c = absurd (not_past c.args.nets.now c.args.number (sym c.in-None.ensures) c.requires.inside)
