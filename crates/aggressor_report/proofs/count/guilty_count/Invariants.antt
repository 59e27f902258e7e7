use Rattle.std.proofs.Common.{◌≡◌, ◌+◌, ◌-◌, ◌*◌, ◌≤◌, length, take, drop}
use Rattle.std.specs.List.{filter}
use Rattle.xt_model.specs.Limits.{most_couplings}
use Rattle.aggressor_report.specs.Guilt.{net_entries, is_guilty}
use Rattle.aggressor_report.specs.Entries.{guilty_among}
use Rattle.aggressor_report.proofs.count.guilty_count.Given as goal

abbrev pub invariant-loop-number : goal.invariant-loop-number
invariant-loop-number l = record {
  counted : l.count + length (filter is_guilty (net_entries l.design l.low l.high l.number (drop l.number (take l.to l.design.nets))))
      ≡ length (guilty_among l.design l.low l.high l.from l.to);
  few : l.count ≤ 2 * most_couplings * (l.number - l.from);
}
