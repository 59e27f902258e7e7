use Rattle.xt_meaning.proofs.Meeting.{overlaps_decides}
use Rattle.xt_meaning.proofs.answer_laws.answers_decide.Goals as goal

pub returns : goal.returns
returns c = λ period q r h. overlaps_decides period q r h
