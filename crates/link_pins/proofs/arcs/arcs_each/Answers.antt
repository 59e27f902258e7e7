use Rattle.std.proofs.Common.{◌≡◌, ◌+◌, ◌∙◌, cond, is_some, get_or, sym, ap, arith}
use Rattle.xt_model.specs.declared.edge.Edge.TheVariants.{Rise}
use Rattle.link_rules.specs.Arcs.{arc_by}
use Rattle.link_pins.proofs.CountLaws.{made_counted, arc_some, counted_yes, counted_no, one_most}
use Rattle.link_pins.proofs.arcs.arcs_each.Goals as goal
use Rattle.link_pins.proofs.arcs.arcs_each.Goals.{then-is_some, else-is_some}

pub loop-output-preserved : goal.loop-output-preserved
loop-output-preserved c =
    let pair = get_or c.edge_pairs-output-items.result.now c.loop-output.output-index (Rise, Rise) in
    let step : c.if-is_some.count ≡ c.loop-output.count + cond (is_some c.tables_at.result) 1 0 = elim c.if-is_some.branch [
      | then-is_some w ↦ counted_yes (is_some c.tables_at.result) c.loop-output.count c.if-is_some.count (sym c.is_some.ensures ∙ w.if-is_some.true) w.count-is
      | else-is_some w ↦ counted_no (is_some c.tables_at.result) c.loop-output.count c.if-is_some.count (sym c.is_some.ensures ∙ w.if-is_some.false) w.count-is
    ] in
    record {
      most = omega (arith, c.loop-output.invariant.most, step, one_most (is_some c.tables_at.result));
      made = λ at.
          rw (← c.edge_pairs-output-items.ensures)
          (made_counted (arc_by c.args.timing.now at) c.edge_pairs-output-items.result.now c.loop-output.output-index (Rise, Rise) c.loop-output.count c.if-is_some.count
          c.loop-output-test.true (rw (← c.edge_pairs-output-items.ensures) at (c.loop-output.invariant.made at))
          (step ∙ ap (λ b. c.loop-output.count + cond b 1 0) (ap is_some c.tables_at.ensures ∙ sym (arc_some c.args.timing.now at pair))));
    }
