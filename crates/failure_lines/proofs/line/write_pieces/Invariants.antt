use Rattle.std.proofs.Common.{drop}
use Rattle.failure_lines.proofs.Pieces.{IsBegun, joined}
use Rattle.failure_lines.proofs.line.write_pieces.Given as goal

abbrev pub invariant-loop-piece : goal.invariant-loop-piece
invariant-loop-piece g l =
    IsBegun (g.E.Sink.written l.fn.err) (g.E.Sink.written l.err) (g.E.Sink.faults l.fn.err) (g.E.Sink.faults l.err)
    (joined (drop l.piece-index l.pieces)) (joined l.pieces)
