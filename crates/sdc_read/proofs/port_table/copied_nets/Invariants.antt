use Rattle.std.proofs.Common.{◌≡◌, map, take}
use Rattle.sdc_read.proofs.port_table.copied_nets.Given as goal

abbrev pub invariant-loop-number : goal.invariant-loop-number
invariant-loop-number l = l.nets.items ≡ map (λ e. e.1) (take l.number l.netlist.nets)
