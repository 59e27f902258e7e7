use Rattle.std.proofs.Common.{ap, ◌∙◌, length, arith}
use Rattle.chaos_core.specs.TurnMarks.{Marks}
use Rattle.chaos_core.proofs.Telling.{marks_moved, moves_further, windows_moved}
use Rattle.chaos_core.proofs.alone.move_to.Goals as goal

pub tell-requires-clause-range : goal.tell-requires-clause-range
tell-requires-clause-range c = c.requires.fits.range

pub tell-requires-clause-further : goal.tell-requires-clause-further
tell-requires-clause-further c =
    moves_further c.args.board.now c.args.design.now c.args.direction c.args.windows.now c.args.net.0 c.args.pair.now c.requires.kept.words c.requires.design c.requires.direction c.requires.windows c.requires.numbers c.requires.made

pub tell-requires-clause-marks : goal.tell-requires-clause-marks
tell-requires-clause-marks c = c.requires.marks.counts.answers

pub note_look-requires : goal.note_look-requires
note_look-requires c =
    let e = ap (λ (m : Marks). length m.seen) c.tell.ensures.rest in let n = c.requires.marks.counts.seen in let h = c.requires.net in omega (arith, e, n, h)

pub note_move-requires : goal.note_move-requires
note_move-requires c =
    let e = ap (λ (m : Marks). length m.moved) c.tell.ensures.rest in let f = ap (λ (m : Marks). length m.moved) c.note_look.ensures in
    let n = c.requires.marks.counts.moved in let h = c.requires.net in omega (arith, e, f, n, h)

pub returns-clause-turn : goal.returns-clause-turn
returns-clause-turn c = ap (λ (m : Marks). m.turn) c.note_move.ensures ∙ (ap (λ (m : Marks). m.turn) c.note_look.ensures ∙ ap (λ (m : Marks). m.turn) c.tell.ensures.rest)

pub returns-clause-marks : goal.returns-clause-marks
returns-clause-marks c =
    marks_moved c.args.board.now c.args.design.now c.publish_all.new.board.words c.args.net.0 c.args.pair.now c.args.direction c.requires.kept.words c.requires.design c.requires.direction c.requires.net c.requires.fits.range
    c.requires.made c.publish_all.ensures.words c.args.windows.now c.args.marks.now c.tell.new.marks c.note_look.new.self c.note_move.new.self c.requires.windows c.requires.numbers c.requires.marks c.tell.ensures.told c.tell.ensures.rest c.note_look.ensures c.note_move.ensures

pub set-requires-clause-net : goal.set-requires-clause-net
set-requires-clause-net c = let n = c.requires.windows.count in let h = c.requires.net in omega (arith, n, h)

pub returns-clause-numbers : goal.returns-clause-numbers
returns-clause-numbers c =
    windows_moved c.args.board.now c.args.design.now c.publish_all.new.board.words c.args.net.0 c.args.pair.now c.args.direction c.requires.kept.words c.requires.design c.requires.direction c.requires.net c.requires.fits.range
    c.requires.made c.publish_all.ensures.words c.args.windows.now c.set.new.self c.requires.windows c.requires.numbers c.set.ensures
