use Rattle.xt_meaning.proofs.Growth.{wired}
use Rattle.xt_meaning.proofs.Existence.{fits_within, holds_list}
use Rattle.xt_meaning.proofs.answer_laws.answers_bound_windows.Goals as goal

pub returns : goal.returns
returns c = record {
  contains = λ d levels b W w s l f h. fits_within d levels b W w (wired d s) l f h;
  within = λ d levels b W w s l f h. holds_list d levels b W w (wired d s) l f h;
}
