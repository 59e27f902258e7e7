use Rattle.xt_meaning.proofs.Meeting.{answers_symmetric}
use Rattle.xt_meaning.proofs.answer_laws.answers_are_symmetric.Goals as goal

pub returns : goal.returns
returns c = λ period W. record { turned = λ n m e f. answers_symmetric period W n m e f }
