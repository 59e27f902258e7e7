use Rattle.xt_meaning.proofs.Numbers.{numbers_count, numbers_each, past_numbers}
use Rattle.xt_meaning.proofs.word_laws.numbers_are_windows.Goals as goal

pub returns : goal.returns
returns c = record { count = λ v. numbers_count v; each = λ v word h. numbers_each v word h; past = λ ns word h. past_numbers ns word h }
