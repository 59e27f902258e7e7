use Rattle.std.proofs.Common.{◌≡◌, ◌+◌, length}
use Rattle.hier_flatten.specs.Hierarchy.{numbered}
use Rattle.hier_flatten.proofs.TableLaws.{IsPart}
use Rattle.hier_flatten.proofs.index.note_modules.Given as goal

abbrev pub invariant-modules : goal.invariant-modules
invariant-modules l = record {
  part : IsPart l.numbers (numbered l.number l.rest) (numbered 0 l.modules);
  count : l.number + length l.rest ≡ length l.modules;
}

abbrev pub decreases-modules : goal.decreases-modules
decreases-modules l = length l.rest
