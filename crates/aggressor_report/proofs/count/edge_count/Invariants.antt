use Rattle.std.proofs.Common.{◌≡◌, ◌+◌, ◌≤◌, length, drop}
use Rattle.std.specs.List.{filter}
use Rattle.aggressor_report.specs.Guilt.{edge_entries, is_guilty}
use Rattle.aggressor_report.proofs.count.edge_count.Given as goal

abbrev pub invariant-loop-number : goal.invariant-loop-number
invariant-loop-number l = record {
  counted : l.count + length (filter is_guilty (edge_entries l.design l.low l.high l.victim l.edge l.number (drop l.number l.couplings)))
      ≡ length (filter is_guilty (edge_entries l.design l.low l.high l.victim l.edge 0 l.couplings));
  few : l.count ≤ l.number;
}
