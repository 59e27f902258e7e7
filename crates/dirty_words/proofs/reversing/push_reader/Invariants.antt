use Rattle.std.proofs.Common.{◌≡◌, length, map, take}
use Rattle.net_eval.specs.ReadLists.{ids}
use Rattle.chaos_core.specs.Views.{Rises}
use Rattle.dirty_words.specs.Readers.{HasReader}
use Rattle.dirty_words.proofs.reversing.push_reader.Given as goal

abbrev pub invariant-loop-net : goal.invariant-loop-net
invariant-loop-net l = record {
  count : length l.rows ≡ length l.initial.rows;
  rows : Rises (ids l.reads) → HasReader (map (λ row. row.items) l.initial.rows) (map (λ row. row.items) l.rows) l.reader.0 (take l.net-index (ids l.reads));
}
