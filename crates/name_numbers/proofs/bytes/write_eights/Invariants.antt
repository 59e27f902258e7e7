use Rattle.std.proofs.Common.{◌≡◌, ◌++◌, ℕ, List, length}
use Rattle.std.specs.List.{fold}
use Rattle.name_numbers.specs.Eights.{eights}
use Rattle.name_numbers.proofs.bytes.write_eights.Given as goal

abbrev pub invariant-eights : goal.invariant-eights
invariant-eights g l = (more : List ℕ) → fold g.H.Hasher.write l.initial.state (eights (l.bytes ++ more)) ≡ fold g.H.Hasher.write l.state (eights (l.rest ++ more))

abbrev pub decreases-eights : goal.decreases-eights
decreases-eights g l = length l.rest
