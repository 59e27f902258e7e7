use Rattle.std.proofs.Common.{◌≡◌, ◌||◌, length}
use Rattle.std.specs.List.{list_any}
use Rattle.xt_lex.specs.Bytes.{is_foreign}
use Rattle.xt_lex.proofs.faults.has_foreign.Given as goal

abbrev pub invariant-bytes : goal.invariant-bytes
invariant-bytes l = (l.foreign || list_any is_foreign l.rest) ≡ list_any is_foreign l.bytes

abbrev pub decreases-bytes : goal.decreases-bytes
decreases-bytes l = length l.rest
