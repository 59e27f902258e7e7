use Rattle.std.proofs.Common.{◌≡◌, length}
use Rattle.sdc_read.specs.Mentions.{state_of, IsKept}
use Rattle.sdc_read.specs.Reading.{commands_mean}
use Rattle.sdc_read.proofs.read.read_all.Given as goal

abbrev pub invariant-commands : goal.invariant-commands
invariant-commands l =
    (commands_mean l.netlist l.commands (state_of l.netlist l.state)
    ≡ commands_mean l.netlist l.fn.commands (state_of l.netlist l.fn.state))
    × (IsKept l.netlist l.fn.state → IsKept l.netlist l.state)

abbrev pub decreases-commands : goal.decreases-commands
decreases-commands l = length l.commands
