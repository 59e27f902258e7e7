use Rattle.std.specs.Prelude.{IsTrue}
use Rattle.xt_meaning.proofs.ReadLists.{reads_of_list, list_of_reads, read_list_unique}
use Rattle.xt_meaning.proofs.word_laws.read_list_is_whole.Goals as goal

pub returns : goal.returns
returns c = record {
  holds = λ read d n reads is. (λ h. list_of_reads (λ m. IsTrue (read m)) d n reads is h, λ h. reads_of_list (λ m. IsTrue (read m)) d n reads is h);
  one = λ d n reads others a b. read_list_unique d n reads others a b;
}
