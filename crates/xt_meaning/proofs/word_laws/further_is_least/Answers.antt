use Rattle.xt_meaning.proofs.Numbers.{further_one, further_first, further_second, further_least, furthest_each}
use Rattle.xt_meaning.proofs.word_laws.further_is_least.Goals as goal

pub returns : goal.returns
returns c = record {
  one = λ way side m n. further_one way side m n;
  first = λ way side m n. further_first way side m n;
  second = λ way side m n. further_second way side m n;
  least = λ way side m n b h k. further_least way side m n b h k;
  each = λ way ms ns word h. furthest_each way ms ns word h;
}
