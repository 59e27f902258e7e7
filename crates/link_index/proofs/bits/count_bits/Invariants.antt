use Rattle.std.proofs.Common.{◌≡◌, ◌*◌, ◌≤◌, ◌^◌, take, length}
use Rattle.verilog_net.specs.Bits.{bits}
use Rattle.link_index.proofs.bits.count_bits.Given as goal

abbrev pub invariant-loop-number : goal.invariant-loop-number
invariant-loop-number l = record {
  count : l.count ≡ length (bits (take l.number l.nets));
  most : l.count ≤ l.number * 2 ^ 32;
}
