use Rattle.xt_meaning.proofs.Existence.{fixed_exists}
use Rattle.xt_meaning.proofs.answer_laws.answers_have_windows.Goals as goal

pub returns : goal.returns
returns c = λ d levels b s l. fixed_exists d levels b s l
