use Rattle.std.proofs.Common.{[], ◌∷◌, codes, subst}
use Rattle.command_line.specs.Words.{Text}
use Rattle.call_meaning.specs.FailureWords.{WritesLine}
use Rattle.failure_lines.proofs.Pieces.{name_pieces}
use Rattle.failure_lines.proofs.line.write_one_name.Goals as goal

pub returns : goal.returns
returns g c =
    let Line : Text → Type 0 = WritesLine (g.E.Sink.written c.args.err.now) (g.E.Sink.written c.write_pieces.new.err) (g.E.Sink.faults c.args.err.now) (g.E.Sink.faults c.write_pieces.new.err) in
    subst Line (name_pieces (codes "link: ") c.args.code.now (codes " ") c.args.name.now (10 ∷ [])) c.write_pieces.ensures
