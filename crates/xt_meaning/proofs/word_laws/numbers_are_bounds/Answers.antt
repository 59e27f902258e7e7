use Rattle.xt_meaning.proofs.Numbers.{numbers_order, bound_there, number_back}
use Rattle.xt_meaning.proofs.word_laws.numbers_are_bounds.Goals as goal

pub returns : goal.returns
returns c = record { order = λ m n. numbers_order m n; there = λ b h. bound_there b h; back = λ n h. number_back n h }
