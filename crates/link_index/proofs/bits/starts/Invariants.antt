use Rattle.std.proofs.Common.{◌≡◌, ℕ, ◌<◌, take, length, slice_index}
use Rattle.verilog_net.specs.Bits.{bits}
use Rattle.link_index.proofs.bits.starts.Given as goal

abbrev pub invariant-loop-number : goal.invariant-loop-number
invariant-loop-number l = record {
  next : l.next ≡ length (bits (take l.number l.nets));
  count : length l.starts.items ≡ l.number;
  each : (k : ℕ) → k < l.number → slice_index l.starts.items k ≡ length (bits (take k l.nets));
}
