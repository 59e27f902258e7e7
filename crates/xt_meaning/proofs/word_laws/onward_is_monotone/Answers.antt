use Rattle.std.specs.Prelude.{IsTrue}
use Rattle.xt_meaning.proofs.Growth.{wired}
use Rattle.xt_meaning.proofs.Numbers.{onward_mono_at}
use Rattle.xt_meaning.proofs.word_laws.onward_is_monotone.Goals as goal

pub returns : goal.returns
returns c = λ read way d f g word s reads h. onward_mono_at (λ n. IsTrue (read n)) way d f g word (wired d s) reads h
