use Rattle.std.proofs.Common.{[], ◌∷◌, ◌∙◌, codes, refl, subst}
use Rattle.std.specs.Fmt.{decimal}
use Rattle.command_line.specs.Words.{Text}
use Rattle.call_meaning.specs.FailureWords.{WritesLine}
use Rattle.failure_lines.proofs.Pieces.{place_pieces}
use Rattle.failure_lines.proofs.line.write_place.Goals as goal

pub returns : goal.returns
returns g c =
    let Line : Text → Type 0 = WritesLine (g.E.Sink.written c.args.err.now) (g.E.Sink.written c.write_pieces.new.err) (g.E.Sink.faults c.args.err.now) (g.E.Sink.faults c.write_pieces.new.err) in
    let pieces = place_pieces c.as_bytes.result.now (codes ":") c.as_bytes-2.result.now (codes ": ") c.args.code.now (10 ∷ []) c.args.file.now (decimal c.args.line) c.args.code.now (c.as_bytes.ensures.value ∙ c.as_str.ensures) (c.as_bytes-2.ensures.value ∙ c.format.ensures.text) refl in
    subst Line pieces c.write_pieces.ensures
