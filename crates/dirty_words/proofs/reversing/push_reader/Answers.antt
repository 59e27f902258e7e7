use Rattle.std.proofs.Common.{length, length-set, ap, ◌∙◌, Vec, Global}
use Rattle.xt_model.specs.declared.net.NetId.{NetId}
use Rattle.dirty_words.proofs.Rows.{turn_then, turn_else}
use Rattle.dirty_words.proofs.reversing.push_reader.Goals.{then-number-rows+in_ok-push, else-number-rows}
use Rattle.dirty_words.proofs.reversing.push_reader.Goals as goal

pub loop-net-preserved : goal.loop-net-preserved
loop-net-preserved c =
    let inv = c.loop-net.invariant in
    let begin = c.args.rows.now in
    let rows = c.loop-net.rows in
    let reads = c.args.reads.now in
    let j = c.loop-net.net-index in
    let inside = c.loop-net-test.true in
    elim c.if-number-rows.branch [
      | then-number-rows+in_ok-push w ↦ record {
        count = ap length w.rows-is ∙ (length-set rows _ w.push.new.self ∙ inv.count);
        rows = λ up. turn_then (λ (row : Vec NetId Global). row.items) begin rows c.if-number-rows.rows c.args.reader reads j inv.count up inside w.index-rows-number.result w.push.new.self w.if-number-rows.true w.rows-is w.in_ok-push.ensures.items
            (inv.rows up);
      }
      | else-number-rows w ↦ record {
        count = ap length w.rows-is ∙ inv.count;
        rows = λ up. turn_else (λ (row : Vec NetId Global). row.items) begin rows c.if-number-rows.rows c.args.reader reads j inv.count up inside w.if-number-rows.false w.rows-is (inv.rows up);
      }
    ]
