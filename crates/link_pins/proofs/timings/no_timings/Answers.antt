use Rattle.std.proofs.Common.{◌≡◌, [], length, sym, ap, subst, arith}
use Rattle.std.specs.List.{All}
use Rattle.std.proofs.lemmas.List.{length_push}
use Rattle.link_pins.specs.declared.timings.NetArcs.{NetArcs}
use Rattle.link_pins.proofs.TimingLaws.{no_arcs_more}
use Rattle.link_pins.proofs.timings.no_timings.Goals as goal

pub loop-init : goal.loop-init
loop-init c = record {
  count = ap length c.in_ok-rows.ensures.items;
  arcs = subst (All (λ (row : NetArcs). row.arcs.items ≡ [])) (sym c.in_ok-rows.ensures.items) (λ k d lt. absurd (omega (arith, lt)));
}

pub loop-preserved : goal.loop-preserved
loop-preserved c = record {
  count = omega (arith, ap length c.in_ok-push.ensures.items, length_push c.loop.rows.items (record { arcs = c.new.result }), c.loop.invariant.count);
  arcs = no_arcs_more c.loop.rows.items c.push.new.self.items (record { arcs = c.new.result }) c.in_ok-push.ensures.items c.new.ensures.items c.loop.invariant.arcs;
}

pub returns-clause-count : goal.returns-clause-count
returns-clause-count c = omega (arith, c.loop.invariant.count, c.loop-test.false, c.loop.auto.counter-end, c.count-end.ensures.value)

pub returns-clause-arcs : goal.returns-clause-arcs
returns-clause-arcs c = c.loop.invariant.arcs
