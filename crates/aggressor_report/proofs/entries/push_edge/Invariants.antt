use Rattle.std.proofs.Common.{◌≡◌, ◌++◌, drop}
use Rattle.std.specs.List.{filter}
use Rattle.aggressor_report.specs.Guilt.{edge_entries, is_guilty}
use Rattle.aggressor_report.proofs.entries.push_edge.Given as goal

abbrev pub invariant-loop-number : goal.invariant-loop-number
invariant-loop-number l =
    l.out.items ++ filter is_guilty (edge_entries l.design l.low l.high l.victim l.edge l.number (drop l.number l.couplings))
    ≡ l.initial.out.items ++ filter is_guilty (edge_entries l.design l.low l.high l.victim l.edge 0 l.couplings)
