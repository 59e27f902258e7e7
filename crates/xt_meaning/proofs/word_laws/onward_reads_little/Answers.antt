use Rattle.std.specs.Prelude.{IsTrue}
use Rattle.xt_meaning.proofs.Growth.{wired}
use Rattle.xt_meaning.proofs.Numbers.{onward_same_at}
use Rattle.xt_meaning.proofs.word_laws.onward_reads_little.Goals as goal

pub returns : goal.returns
returns c = λ read d f g word s reads h. onward_same_at (λ n. IsTrue (read n)) d f g word (wired d s) reads h
