use Rattle.std.proofs.Common.{◌+◌, [], ◌∷◌, ◌∙◌, codes, subst}
use Rattle.std.specs.Fmt.{decimal}
use Rattle.command_line.specs.Words.{Text}
use Rattle.call_meaning.specs.FailureWords.{WritesLine, most_bytes}
use Rattle.failure_lines.proofs.Pieces.{length_pieces}
use Rattle.failure_lines.proofs.line.write_file_refusal.Goals as goal

pub returns-in-TooLong : goal.returns-in-TooLong
returns-in-TooLong g c =
    let Line : Text → Type 0 = WritesLine (g.E.Sink.written c.args.err.now) (g.E.Sink.written c.write_pieces.new.err) (g.E.Sink.faults c.args.err.now) (g.E.Sink.faults c.write_pieces.new.err) in
    let pieces = length_pieces (codes "limit: file ") c.as_bytes-name.result.now (codes " ") c.as_bytes-length.result.now (10 ∷ []) c.args.file.now (decimal (most_bytes + 1)) (c.as_bytes-name.ensures.value ∙ c.as_str.ensures) (c.as_bytes-length.ensures.value ∙ c.format.ensures.text) in
    rw c.in-TooLong.is (subst Line pieces c.write_pieces.ensures)
