use Rattle.std.proofs.Common.{◌≡◌, length}
use Rattle.verilog_net.specs.Bits.{bits}
use Rattle.link_pins.proofs.sinks.input_counts.Given as goal

abbrev pub invariant-loop-pin : goal.invariant-loop-pin
invariant-loop-pin l = length l.counts.items ≡ length (bits l.nets.nets)
