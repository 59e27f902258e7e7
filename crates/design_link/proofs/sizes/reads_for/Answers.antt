use Rattle.std.proofs.Common.{◌≡◌, ◌+◌, ◌∙◌, length, arith, sym, ap}
use Rattle.std.proofs.lemmas.Bool.{eqb-false}
use Rattle.std.proofs.lemmas.List.{take_all}
use Rattle.design_link.proofs.ReadLaws.{looked_at, reads_are}
use Rattle.design_link.proofs.sizes.reads_for.Goals as goal

pub returns-clause-value : goal.returns-clause-value
returns-clause-value c d same =
    let some : length c.args.arcs.now ≡ 0 → ⊥ = eqb-false (length c.args.arcs.now) 0 (sym c.if-is_empty.ensures) in
    reads_are d c.args.wires.now same c.args.own c.loop-arc.total c.args.arcs.now (omega (arith, some))
    (c.loop-arc.invariant.0 ∙ ap (λ arcs. 1 + c.args.own + looked_at c.args.wires.now arcs) (take_all c.loop-arc.arc-index c.args.arcs.now c.loop-arc-test.false))
