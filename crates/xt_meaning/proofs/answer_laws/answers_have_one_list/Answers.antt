use Rattle.xt_meaning.proofs.Growth.{wired}
use Rattle.xt_meaning.proofs.Existence.{fixed_unique}
use Rattle.xt_meaning.proofs.answer_laws.answers_have_one_list.Goals as goal

pub returns : goal.returns
returns c = λ d levels b v w s l f g. fixed_unique d levels b v w (wired d s) l f g
