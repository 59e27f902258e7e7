use Rattle.std.proofs.Common.{[], ◌∷◌, ◌∙◌, codes, subst}
use Rattle.command_line.specs.Words.{Text}
use Rattle.call_meaning.specs.FailureWords.{WritesLine}
use Rattle.failure_lines.proofs.Pieces.{file_pieces}
use Rattle.failure_lines.proofs.line.write_stop.Goals as goal

pub returns-in-Unread : goal.returns-in-Unread
returns-in-Unread g c =
    let Line : Text → Type 0 = WritesLine (g.E.Sink.written c.args.err.now) (g.E.Sink.written c.write_pieces.new.err) (g.E.Sink.faults c.args.err.now) (g.E.Sink.faults c.write_pieces.new.err) in
    rw c.in-Unread.is (subst Line (file_pieces (codes "read fault: ") c.as_bytes.result.now (10 ∷ []) _ (c.as_bytes.ensures.value ∙ c.as_str.ensures)) c.write_pieces.ensures)
