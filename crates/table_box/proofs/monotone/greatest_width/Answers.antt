use Rattle.std.proofs.Common.{◌-◌, pos, arith}
use Rattle.table_box.proofs.Sizes.{apart_more, width_more}
use Rattle.table_box.proofs.monotone.greatest_width.Goals as goal

pub loop-line-preserved : goal.loop-line-preserved
loop-line-preserved c =
    let inv = c.loop-line.invariant in let some = inv.some in let within = c.loop-line-test.true in
    let before = c.requires.numbers (c.loop-line.line - 1) (pos 0) (omega (arith, some, within)) in
    let here = c.requires.numbers c.loop-line.line (pos 0) within in
    let more = width_more _ _ _ c.max-width.result before here inv.least inv.most c.max-width.ensures.value in
    record { each = apart_more _ _ _ _ inv.each more.more inv.some more.here; some = omega (arith, some); least = more.least; most = more.most }
