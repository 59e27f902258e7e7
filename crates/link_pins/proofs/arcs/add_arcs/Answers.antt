use Rattle.std.proofs.Common.{sym}
use Rattle.std.proofs.lemmas.List.{append-nil}
use Rattle.xt_model.specs.declared.edge.Edge.TheVariants.{Rise}
use Rattle.link_rules.specs.Arcs.{arc_by}
use Rattle.link_pins.specs.Places.{place_of}
use Rattle.link_pins.proofs.ArcLaws.{made_more}
use Rattle.link_pins.proofs.arcs.add_arcs.Goals as goal
use Rattle.link_pins.proofs.arcs.add_arcs.Goals.{in-Some+in_ok-push, in_default}

pub loop-input-preserved : goal.loop-input-preserved
loop-input-preserved c =
    elim c.match-tables_at.branch [
      | in-Some+in_ok-push w ↦
          rw (w.arcs-is, ← c.edge_pairs-input-items.ensures)
          (made_more (arc_by c.args.timing.now (place_of c.args.from)) c.edge_pairs-input-items.result.now c.loop-input.input-index (Rise, Rise) c.args.arcs.now.items c.loop-input.arcs.items w.push.new.self.items c.loop-input-test.true
          (rw (← c.edge_pairs-input-items.ensures) at c.loop-input.invariant) (rw (← c.tables_at.ensures, w.in-Some.is) w.in_ok-push.ensures.items))
      | in_default w ↦
          rw (w.arcs-is, ← c.edge_pairs-input-items.ensures)
          (made_more (arc_by c.args.timing.now (place_of c.args.from)) c.edge_pairs-input-items.result.now c.loop-input.input-index (Rise, Rise) c.args.arcs.now.items c.loop-input.arcs.items c.loop-input.arcs.items c.loop-input-test.true
          (rw (← c.edge_pairs-input-items.ensures) at c.loop-input.invariant) (rw (← c.tables_at.ensures, w.in_default.is) (sym (append-nil c.loop-input.arcs.items))))
    ]
