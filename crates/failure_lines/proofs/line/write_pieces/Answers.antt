use Rattle.std.proofs.lemmas.List.{drop_all}
use Rattle.failure_lines.proofs.Pieces.{all_written, cut_off, joined, nothing_written, one_more}
use Rattle.failure_lines.proofs.line.write_pieces.Goals as goal

pub loop-piece-init : goal.loop-piece-init
loop-piece-init g c = nothing_written (g.E.Sink.written c.args.err.now) (g.E.Sink.faults c.args.err.now) (joined c.args.pieces.now)

pub loop-piece-preserved : goal.loop-piece-preserved
loop-piece-preserved g c =
    let w = g.E.Sink.written in
    let f = g.E.Sink.faults in
    one_more (w c.args.err.now) (w c.loop-piece.err) (w c.write_whole.new.sink) (f c.args.err.now) (f c.loop-piece.err) (f c.write_whole.new.sink)
    c.args.pieces.now c.loop-piece.piece-index _ (joined c.args.pieces.now) c.loop-piece-test.true c.loop-piece.invariant c.in-Ok.ensures.ok c.write_whole.ensures.counts

pub returns-in_default : goal.returns-in_default
returns-in_default g c =
    let w = g.E.Sink.written in
    let f = g.E.Sink.faults in
    cut_off (w c.args.err.now) (w c.loop-piece.err) (w c.write_whole.new.sink) (f c.args.err.now) (f c.loop-piece.err) (f c.write_whole.new.sink)
    c.args.pieces.now c.loop-piece.piece-index _ (joined c.args.pieces.now) c.loop-piece-test.true c.loop-piece.invariant c.in_default.ensures.err c.in_default.ensures.failed

pub returns : goal.returns
returns g c =
    let w = g.E.Sink.written in
    let f = g.E.Sink.faults in
    all_written (w c.args.err.now) (w c.loop-piece.err) (f c.args.err.now) (f c.loop-piece.err) (joined c.args.pieces.now)
    (rw (drop_all c.loop-piece.piece-index c.args.pieces.now c.loop-piece-test.false) at c.loop-piece.invariant)
