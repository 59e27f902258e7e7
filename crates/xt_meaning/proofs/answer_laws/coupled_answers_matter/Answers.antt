use Rattle.xt_meaning.proofs.Growth.{wired}
use Rattle.xt_meaning.proofs.Answers.{agreed_same, agreed_pairs, coupled_apart}
use Rattle.xt_meaning.proofs.answer_laws.coupled_answers_matter.Goals as goal

pub returns : goal.returns
returns c = record {
  couplings = λ d b c W n e s agree. agreed_same d b c W n e (wired d s) agree;
  pairs = λ d pairs b c W n e s are sb sc agree. agreed_same d b c W n e (wired d s) (agreed_pairs d pairs b c are (coupled_apart d s) sb sc agree);
}
