use Rattle.xt_meaning.proofs.Growth.{wired}
use Rattle.xt_meaning.proofs.Answers.{answers_widen}
use Rattle.xt_meaning.proofs.answer_laws.answers_widen.Goals as goal

pub returns : goal.returns
returns c = λ d b c W V s h w. answers_widen d b c W V (wired d s) h w
