use Rattle.std.proofs.Common.{◌-◌, ◌*◌}
use Rattle.report_text.specs.Pieces.{IsTallyAmong, IsAtMost}
use Rattle.report_text.proofs.tally.tally_of.Given as goal

abbrev pub invariant-loop-net : goal.invariant-loop-net
invariant-loop-net l = record {
  is : IsTallyAmong l.design l.low l.high l.from l.net l.tally;
  most : IsAtMost (2 * (l.net - l.from)) l.tally;
}
