use Rattle.std.proofs.Common.{◌≡◌, ℕ, ◌<◌, [], length, map, filter}
use Rattle.std.specs.List.{range_with_len}
use Rattle.xt_model.specs.Parts.{Parts}
use Rattle.net_eval.specs.ReadLists.{AreReadLists}
use Rattle.chaos_core.specs.Tasks.{list_of}
use Rattle.dirty_words.specs.Views.{has}
use Rattle.dirty_words.specs.Readers.{row_of}
use Rattle.dirty_words.proofs.reversing.readers.Given as goal

abbrev pub invariant-loop-net : goal.invariant-loop-net
invariant-loop-net l = record {
  count : length l.rows.items ≡ l.net;
  none : (net : ℕ) → row_of (map (λ row. row.items) l.rows.items) net ≡ [];
}

abbrev pub invariant-loop-number : goal.invariant-loop-number
invariant-loop-number l = record {
  count : length l.rows.items ≡ length l.lists;
  rows : (d : Parts) → AreReadLists d l.lists → (net : ℕ) → net < length l.lists
      → row_of (map (λ row. row.items) l.rows.items) net ≡ filter (λ r. has (list_of l.lists r) net) (range_with_len 0 l.number);
}
