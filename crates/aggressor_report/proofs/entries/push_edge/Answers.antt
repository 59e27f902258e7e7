use Rattle.std.proofs.Common.{get_or, pos}
use Rattle.std.proofs.lemmas.Option.{slice_get-get_or}
use Rattle.xt_model.specs.declared.net.Coupling.{Coupling}
use Rattle.aggressor_report.proofs.Turns.{net_there, number_fits, aggressor_there}
use Rattle.aggressor_report.proofs.Picked.{entry_turn, entries_end}
use Rattle.aggressor_report.proofs.entries.push_edge.Goals as goal

-- what a read past the end gives
abbrev none : Coupling
none = record { to = record { 0 = 0 }; cap = pos 0 }

pub overflow_cast-number : goal.overflow_cast-number
overflow_cast-number c =
    let there = net_there c.args.design.now.nets _ c.args.victim.0 _ c.nets.ensures.value c.requires.victim c.index-nets-victim.is in
    number_fits c.args.design.now c.args.victim.0 _ _ _ c.nets.ensures.sound there c.as_slice-couplings.ensures c.loop-number-test.true

pub new-requires-clause-aggressor : goal.new-requires-clause-aggressor
new-requires-clause-aggressor c =
    let d = c.args.design.now in
    let number = c.loop-number.number in
    let net = c.index-nets-victim.result in
    let there = net_there d.nets c.nets.result.now c.args.victim.0 net c.nets.ensures.value c.requires.victim c.index-nets-victim.is in
    aggressor_there d c.args.victim.0 net c.as_slice-couplings.result.now number none c.nets.ensures.sound there c.as_slice-couplings.ensures c.loop-number-test.true

pub loop-number-preserved : goal.loop-number-preserved
loop-number-preserved c =
    let couplings = c.as_slice-couplings.result.now in
    let number = c.loop-number.number in
    entry_turn c.args.design.now c.args.low.now c.args.high.now c.args.victim c.args.edge couplings number (get_or couplings number none) c.new.result
    c.loop-number.out.items c.push_entry.new.out.items _
    (slice_get-get_or couplings number none c.loop-number-test.true) c.new.ensures c.in_ok-push_entry.ensures c.loop-number.invariant

pub returns : goal.returns
returns c =
    let there = net_there c.args.design.now.nets _ c.args.victim.0 _ c.nets.ensures.value c.requires.victim c.index-nets-victim.is in
    entries_end c.args.design.now c.args.low.now c.args.high.now c.args.victim c.args.edge
    _ _ _ _ _ _ c.loop-number-test.false there c.as_slice-couplings.ensures c.loop-number.invariant
