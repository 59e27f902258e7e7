use Rattle.xt_meaning.proofs.Growth.{wired}
use Rattle.xt_meaning.proofs.Numbers.{words_respect_on, words_fit_on}
use Rattle.xt_meaning.proofs.word_laws.words_keep_on.Goals as goal

pub returns : goal.returns
returns c = λ way d f g s r onto behind.
    (words_respect_on way d f g (wired d s) r onto behind, words_fit_on way d f g (wired d s) r onto behind)
