use Rattle.std.specs.Prelude.{IsTrue}
use Rattle.xt_meaning.proofs.Growth.{wired}
use Rattle.xt_meaning.proofs.Steps.{word_respects_at}
use Rattle.xt_meaning.proofs.laws.operator_respects.Goals as goal

pub returns : goal.returns
returns c = λ read way d f word s reads r. word_respects_at (λ n. IsTrue (read n)) way d f word (wired d s) reads r
