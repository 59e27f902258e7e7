use Rattle.std.proofs.Common.{◌<◌, arith, ap, length, get_or, pos}
use Rattle.elmore_tree.specs.declared.part.Resistor.{Resistor}
use Rattle.elmore_tree.proofs.Rows.{rows_begin, rows_turn_at, rows_end}
use Rattle.elmore_tree.proofs.walk.resistors_around.Goals as goal

pub loop-number-preserved : goal.loop-number-preserved
loop-number-preserved c = rows_turn_at c.args.tree.now _ _ _ _ _ _ c.resistors-resistor-items.ensures.value (omega arith) c.resistors-resistor-items.ensures.sound c.in_ok-add_at.ensures c.in_ok-add_at-2.ensures c.loop-number.invariant

pub returns : goal.returns
returns c = rows_end c.args.tree.now _ _ (omega (arith, ap length c.resistors-resistor-items.ensures.value)) c.loop-number.invariant

abbrev none : Resistor
none = record { a = 0; b = 0; value = pos 0 }

pub bounds-resistor-items-number : goal.bounds-resistor-items-number
bounds-resistor-items-number c = c.loop-number-test.true

pub loop-number-init : goal.loop-number-init
loop-number-init c =
    let none = c.loop-node.invariant.none in
    let past = c.loop-node-test.false in
    let last = c.loop-node.auto.node-end in
    let nodes = c.nodes-node-end.ensures.value in
    let count = c.loop-node.invariant.count in
    rows_begin c.args.tree.now c.loop-node.rows.items (omega (arith, past, last, nodes, count)) none

pub add_at-requires : goal.add_at-requires
add_at-requires c =
    let i = c.loop-number.number in
    let t = c.args.tree.now in
    let same = c.resistors-resistor-items.ensures.value in
    let below : i < length t.resistors = rw (← same) c.loop-number-test.true in
    let there : (get_or c.resistors-resistor-items.result.now i none).a < t.nodes = rw same ((c.resistors-resistor-items.ensures.sound.resistors i none below).a) in
    let count = c.loop-number.invariant.count in
    omega (arith, there, count)
