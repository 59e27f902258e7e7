use Rattle.std.proofs.Common.{refl, ap, length, arith}
use Rattle.xt_meaning.proofs.Numbers.{numbers_count}
use Rattle.chaos_core.proofs.OnlyWorker.{view_fits}
use Rattle.chaos_core.proofs.Telling.{windows_here, windows_made, windows_reach, windows_room}
use Rattle.chaos_core.proofs.alone.made.Goals as goal

pub prove-unreachable-requires : goal.prove-unreachable-requires
prove-unreachable-requires c =
    let n = numbers_count c.args.windows.now in
    let e = ap length c.requires.numbers in
    let w = ap length c.words.ensures.value in
    let p = ap length c.pairs.ensures.value in
    omega (arith, n, e, w, p, c.if-prove.true)

pub eval_grouped-requires-clause-words : goal.eval_grouped-requires-clause-words
eval_grouped-requires-clause-words c =
    windows_reach c.args.board.now c.args.design.now c.args.net.0 c.args.windows.now c.requires.numbers c.pairs.ensures.in_range c.requires.design c.words.ensures.kept.words c.requires.net

pub eval_grouped-requires-clause-room : goal.eval_grouped-requires-clause-room
eval_grouped-requires-clause-room c =
    windows_room c.args.board.now c.args.design.now c.args.net.0 c.args.windows.now c.requires.numbers c.pairs.ensures.in_range c.requires.design c.words.ensures.kept.words c.requires.net

pub returns-clause-value : goal.returns-clause-value
returns-clause-value c =
    windows_made c.args.board.now c.args.design.now c.args.net.0 c.args.windows.now c.requires.numbers c.pairs.ensures.in_range c.requires.design c.words.ensures.kept.words c.requires.net
    c.eval_grouped.result c.eval_grouped.ensures.rise c.eval_grouped.ensures.fall

pub returns-clause-fits : goal.returns-clause-fits
returns-clause-fits c =
    let b = c.args.board.now in
    let d = c.args.design.now in
    let kept = c.words.ensures.kept.words in
    let made = windows_made b d c.args.net.0 c.args.windows.now c.requires.numbers c.pairs.ensures.in_range c.requires.design kept c.requires.net c.eval_grouped.result c.eval_grouped.ensures.rise c.eval_grouped.ensures.fall in
    view_fits b d c.args.net.0 b.words refl c.requires.design kept c.requires.net c.eval_grouped.result made c.eval_grouped.ensures.range

pub returns-clause-windows : goal.returns-clause-windows
returns-clause-windows c =
    windows_here c.args.board.now c.args.design.now c.args.net.0 c.args.windows.now c.requires.numbers c.pairs.ensures.in_range c.requires.design c.words.ensures.kept.words c.requires.net
