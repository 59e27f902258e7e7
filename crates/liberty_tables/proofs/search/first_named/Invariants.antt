use Rattle.std.proofs.Common.{◌≡◌, length}
use Rattle.liberty_tables.specs.Search.{named_among}
use Rattle.liberty_tables.proofs.search.first_named.Given as goal

abbrev pub invariant-groups : goal.invariant-groups
invariant-groups l = named_among l.bytes l.word l.rest ≡ named_among l.bytes l.word l.groups

abbrev pub decreases-groups : goal.decreases-groups
decreases-groups l = length l.rest
