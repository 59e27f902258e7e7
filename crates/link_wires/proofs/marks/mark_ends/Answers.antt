use Rattle.std.proofs.Common.{map, ◌∙◌}
use Rattle.link_wires.proofs.MarkLaws.{ends_turn}
use Rattle.link_wires.proofs.marks.mark_ends.Goals as goal

pub loop-number-preserved : goal.loop-number-preserved
loop-number-preserved c =
    let i = c.loop-number.invariant in
    let r = ends_turn (map (λ e. e.0) c.args.parasitics.now.names) c.args.ends.now c.args.turn c.loop-number.number c.index-ends-number.result c.loop-number.marks c.mark_end.new.marks
    c.loop-number-test.true c.index-ends-number.is i.names c.mark_end.ensures.name i.marks c.mark_end.ensures.marks in
    record { count = c.mark_end.ensures.count ∙ i.count; names = r.0; marks = r.1 }
