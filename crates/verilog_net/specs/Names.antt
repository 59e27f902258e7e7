-- What a name holds.
use Rattle.std.specs.Prelude.{ℕ, ◌≤◌, List, take}
use Rattle.verilog_net.specs.declared.name.Bytes.{Bytes}
use Rattle.verilog_net.specs.declared.name.Bytes.TheVariants.{Short, Long}

-- the bytes of a name: the used ones of its own, or those of a list
abbrev pub held : Bytes → List ℕ
held (Short used buffer) = take used buffer
held (Long list) = list.value.items

-- no more of its own bytes are used than there are
abbrev pub IsHeld : Bytes → Type 0
IsHeld (Short used buffer) = used ≤ 14
IsHeld (Long list) = Unit {0}
