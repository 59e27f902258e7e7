use Rattle.std.proofs.Common.{◌≡◌, ◌++◌, map, take}
use Rattle.verilog_net.specs.Bits.{numbers_of}
use Rattle.link_pins.specs.Seen.{numbered_bit}
use Rattle.link_pins.proofs.bits.add_bus.Given as goal

abbrev pub invariant-loop-place : goal.invariant-loop-place
invariant-loop-place l =
    l.bits.items ≡ l.initial.bits.items ++ map (numbered_bit l.decl l.role) (take l.place (numbers_of (l.left, l.right)))
