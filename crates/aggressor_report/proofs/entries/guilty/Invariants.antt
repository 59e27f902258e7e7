use Rattle.std.proofs.Common.{◌≡◌, ◌++◌, drop}
use Rattle.std.specs.List.{filter}
use Rattle.aggressor_report.specs.Guilt.{net_entries, is_guilty}
use Rattle.aggressor_report.proofs.entries.guilty.Given as goal

abbrev pub invariant-loop-number : goal.invariant-loop-number
invariant-loop-number l =
    l.entries.items ++ filter is_guilty (net_entries l.design l.low l.high l.number (drop l.number l.design.nets))
    ≡ filter is_guilty (net_entries l.design l.low l.high 0 l.design.nets)
