use Rattle.xt_meaning.proofs.Words.{quads_of_words}
use Rattle.xt_meaning.proofs.Numbers.{words_of_quads}
use Rattle.xt_meaning.proofs.word_laws.words_are_windows.Goals as goal

pub returns : goal.returns
returns c = record { quads = λ W n e. quads_of_words W n e; words = λ f word. words_of_quads f word }
