use Rattle.xt_meaning.proofs.Words.{words_from_quads}
use Rattle.xt_meaning.proofs.Numbers.{windows_by_words, quads_no_further, words_no_further}
use Rattle.xt_meaning.proofs.word_laws.no_further_is_by_words.Goals as goal

pub returns : goal.returns
returns c = record {
  windows = λ way W V. (λ h word. words_from_quads way W V h word, λ h. windows_by_words way W V h);
  words = λ way f g. (λ h. quads_no_further way f g h, λ h. words_no_further way f g h);
}
