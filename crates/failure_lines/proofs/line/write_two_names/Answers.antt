use Rattle.std.proofs.Common.{[], ◌∷◌, codes, subst}
use Rattle.command_line.specs.Words.{Text}
use Rattle.call_meaning.specs.FailureWords.{WritesLine}
use Rattle.failure_lines.proofs.Pieces.{names_pieces}
use Rattle.failure_lines.proofs.line.write_two_names.Goals as goal

pub returns : goal.returns
returns g c =
    let Line : Text → Type 0 = WritesLine (g.E.Sink.written c.args.err.now) (g.E.Sink.written c.write_pieces.new.err) (g.E.Sink.faults c.args.err.now) (g.E.Sink.faults c.write_pieces.new.err) in
    let pieces = names_pieces (codes "link: ") c.args.code.now (codes " ") c.bytes.result.now (codes " ") c.bytes-2.result.now (10 ∷ []) c.args.first.now c.args.second.now c.bytes.ensures.value c.bytes-2.ensures.value in
    subst Line pieces c.write_pieces.ensures
