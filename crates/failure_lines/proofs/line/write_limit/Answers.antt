use Rattle.std.proofs.Common.{[], ◌∷◌, codes, refl, subst}
use Rattle.command_line.specs.Words.{Text}
use Rattle.call_meaning.specs.FailureWords.{WritesLine}
use Rattle.call_meaning.specs.FailureWords.{name_field}
use Rattle.failure_lines.proofs.Pieces.{limit_pieces}
use Rattle.failure_lines.proofs.line.write_limit.Goals as goal

pub returns : goal.returns
returns g c =
    let Line : Text → Type 0 = WritesLine (g.E.Sink.written c.args.err.now) (g.E.Sink.written c.write_pieces.new.err) (g.E.Sink.faults c.args.err.now) (g.E.Sink.faults c.write_pieces.new.err) in
    let pieces = limit_pieces (codes "limit: ") c.args.what.now (codes " ") c.name_pieces.result.0.now c.name_pieces.result.1.now c.args.value.now (10 ∷ []) c.args.what.now (name_field c.args.name.now) c.args.value.now refl c.name_pieces.ensures refl in
    subst Line pieces c.write_pieces.ensures
