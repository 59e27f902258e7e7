use Rattle.std.proofs.Common.{◌≡◌, ◌++◌, false, length}
use Rattle.liberty_tables.specs.Contents.{unquoted}
use Rattle.liberty_tables.proofs.contents.unquoted.Given as goal

abbrev pub invariant-bytes : goal.invariant-bytes
invariant-bytes l = l.held.items ++ unquoted l.kept l.rest ≡ unquoted false l.string

abbrev pub decreases-bytes : goal.decreases-bytes
decreases-bytes l = length l.rest
