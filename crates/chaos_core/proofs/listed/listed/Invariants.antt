use Rattle.std.proofs.Common.{◌≡◌, ℕ, ◌<◌, [], length, map}
use Rattle.std.specs.Prelude.{IfSome}
use Rattle.std.specs.List.{All, slice_get}
use Rattle.chaos_core.specs.Tasks.{list_of}
use Rattle.chaos_core.specs.TurnMarks.{HasListed}
use Rattle.chaos_core.proofs.listed.listed.Given as goal

abbrev pub invariant-loop-net : goal.invariant-loop-net
invariant-loop-net l = record {
  count : length l.rows.items ≡ l._net;
  none : (m : ℕ) → list_of (map (λ row. row.items) l.rows.items) m ≡ [];
}

abbrev pub invariant-loop-number : goal.invariant-loop-number
invariant-loop-number l = record {
  count : length l.rows.items ≡ length l.design.nets;
  inside : (m x : ℕ) → HasListed (map (λ row. row.items) l.rows.items) m x → x < l.number;
  each : (m : ℕ) → m < l.number → IfSome (slice_get l.design.nets m) (λ net. All (λ k. HasListed (map (λ row. row.items) l.rows.items) k.to.0 m) net.couplings);
}
