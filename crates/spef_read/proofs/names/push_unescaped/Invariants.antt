use Rattle.std.proofs.Common.{◌≡◌, length, ◌++◌, false}
use Rattle.spef_read.specs.Names.{unescaped}
use Rattle.spef_read.proofs.names.push_unescaped.Given as goal

abbrev pub invariant-bytes : goal.invariant-bytes
invariant-bytes l =
    l.out ++ unescaped l.marks l.kept l.rest ≡ l.initial.out ++ unescaped l.marks false l.word

abbrev pub decreases-bytes : goal.decreases-bytes
decreases-bytes l = length l.rest
